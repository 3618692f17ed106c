-- Whether a text was written into a buffer, and what the buffer holds afterwards.
use Rattle.std.specs.Prelude.{ℕ, ◌≤◌, List, [], ◌∷◌, ◌++◌, Bool, cond, ◌≡◌, ltb, length, drop, Result, Ok, Err}
use Rattle.letters.specs.declared.TooShort.{TooShort}

-- a buffer shorter than the text is refused
unfoldable pub too_short : List ℕ → List ℕ → Bool
too_short text out = ltb (length out) (length text)

-- else so many characters are written
unfoldable pub told_of : List ℕ → List ℕ → Result ℕ TooShort
told_of text out = cond (too_short text out) (Err (record {})) (Ok (length text))

-- the buffer afterwards: the text at its front, all else as it was; a refusal leaves it unchanged
unfoldable pub buffer_of : List ℕ → List ℕ → List ℕ
buffer_of text out = cond (too_short text out) out (text ++ drop (length text) out)

-- 8 is "buffer too short"
abbrev pub told_number : Result ℕ TooShort → ℕ
told_number (Ok count) = 0
told_number (Err short) = 8

-- the values of an answer: how many characters were written
abbrev pub told_values : Result ℕ TooShort → List ℕ
told_values (Ok count) = count ∷ []
told_values (Err short) = []

-- how many characters were written
abbrev pub written_of : Result ℕ TooShort → ℕ
written_of (Ok count) = count
written_of (Err short) = 0

-- the number and the values for a text and a buffer
abbrev pub number_for : List ℕ → List ℕ → ℕ
number_for text out = cond (too_short text out) 8 0

abbrev pub values_for : List ℕ → List ℕ → List ℕ
values_for text out = cond (too_short text out) [] (length text ∷ [])

-- a text was told: the answer, its number and values, and the whole buffer
pub record Tells (text out : List ℕ) (answer : Result ℕ TooShort) (after : List ℕ) : Type 0 where
  pub answers : answer ≡ told_of text out
  pub numbered : told_number answer ≡ number_for text out
  pub valued : told_values answer ≡ values_for text out
  pub leaves : after ≡ buffer_of text out

-- a text was told, and a buffer with so much room is never too short for it
pub record TellsWithin (room : ℕ) (text out : List ℕ) (answer : Result ℕ TooShort) (after : List ℕ) : Type 0 where
  pub tells : Tells text out answer after
  pub suffices : room ≤ length out → told_number answer ≡ 0
