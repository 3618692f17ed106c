-- Letters: how numbers and characters are shown, as lists of ASCII codes.
use Rattle.std.specs.Prelude.{ℕ, zero, suc, ◌+◌, ◌*◌, ◌/◌, ◌%◌, ◌≡◌, List, [], ◌∷◌, ◌++◌, Bool, cond, not, ◌&&◌, ltb, leb, eqb, length, take, drop}
use Prim.Native.Char.{code}
use Prim.Native.String.{String, [] as none, ◌∷◌ as ◌then◌}

-- ---- digits

-- 0 to 9, then A to F
abbrev pub hex_digit : ℕ → ℕ
hex_digit d = cond (ltb d 10) (48 + d) (55 + d)

-- a byte as two hexadecimal digits, a word as four
abbrev pub hex_two : ℕ → List ℕ
hex_two byte = hex_digit (byte / 16) ∷ hex_digit (byte % 16) ∷ []

unfoldable pub hex_four : ℕ → List ℕ
hex_four word = hex_two (word / 256) ++ hex_two (word % 256)

-- the last two decimal digits
abbrev pub last_two : ℕ → List ℕ
last_two number = (48 + number / 10 % 10) ∷ (48 + number % 10) ∷ []

-- the digits of a number in a base, of at most so many; `nought` is the code of the digit 0
unfoldable pub digits_in : ℕ → ℕ → ℕ → ℕ → List ℕ
digits_in zero base nought number = []
digits_in (suc most) base nought number =
    cond (ltb number base) ((nought + number) ∷ [])
    (digits_in most base nought (number / base) ++ (nought + number % base) ∷ [])

-- a number has no more digits than it counts, and one more
unfoldable pub digits_of : ℕ → ℕ → ℕ → List ℕ
digits_of base nought number = digits_in (suc number) base nought number

-- in decimal digits
abbrev pub decimal_of : ℕ → List ℕ
decimal_of number = digits_of 10 48 number

-- ---- characters

-- shown as they are: printable ASCII, but for the backslash, with which all others begin
abbrev pub is_shown : ℕ → Bool
is_shown c = leb 32 c && leb c 126 && not (eqb c 92)

-- any other as \xNN
unfoldable pub character_text : ℕ → List ℕ
character_text c = cond (is_shown c) (c ∷ []) (92 ∷ 120 ∷ hex_two c)

-- ---- words

-- the codes of a text's characters
abbrev pub codes : String → List ℕ
codes none = []
codes (c then s) = code c ∷ codes s

-- the number that codes spell in base 256, the first of them highest
abbrev pub spelling : List ℕ → ℕ → ℕ
spelling [] high = high
spelling (c ∷ cs) high = spelling cs (256 * high + c)

-- a word of at most eight letters is held as the number that they spell
abbrev pub word : String → ℕ
word s = spelling (codes s) 0

-- and shown as the letters that spell it
abbrev pub letters_of : ℕ → List ℕ
letters_of number = digits_of 256 0 number

-- ---- texts one behind the other

abbrev pub joined : {A : Type 0} → (A → List ℕ) → List A → List ℕ
joined text [] = []
joined text (x ∷ xs) = text x ++ joined text xs

-- ---- in a buffer

-- a text over what stands in a buffer from byte `at` on
unfoldable pub written : List ℕ → ℕ → List ℕ → List ℕ
written out at text = take at out ++ text ++ drop (at + length text) out

-- a text was written there, and where it ends
pub record Wrote (out : List ℕ) (at : ℕ) (text after : List ℕ) (end : ℕ) : Type 0 where
  pub over : after ≡ written out at text
  pub to : end ≡ at + length text

-- ---- where there may be no room

-- a text has room from byte `at` on
unfoldable pub has_room : List ℕ → List ℕ → ℕ → Bool
has_room text out at = leb (at + length text) (length out)

-- it is written where it has room, else nothing is
unfoldable pub put_of : List ℕ → List ℕ → ℕ → List ℕ
put_of text out at = cond (has_room text out at) (written out at text) out

-- the place behind it, or the same place
unfoldable pub end_of : List ℕ → List ℕ → ℕ → ℕ
end_of text out at = cond (has_room text out at) (at + length text) at

-- a text was put there: the whole buffer, and the place that is answered
pub record Put (text out : List ℕ) (at : ℕ) (after : List ℕ) (end : ℕ) : Type 0 where
  pub over : after ≡ put_of text out at
  pub to : end ≡ end_of text out at
