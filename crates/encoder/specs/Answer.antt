-- The encoder's answer, with the paper's number and values, and what the buffer holds afterwards.
use Rattle.std.specs.Prelude.{ℕ, ◌<◌, ◌≤◌, ◌≡◌, List, [], ◌∷◌, ◌++◌, Bool, cond, not, ◌||◌, ltb, length, drop}
use Rattle.std.specs.Prelude.{Result, Ok, Err}
use Rattle.keys.specs.Sheet.{HasExercise, no_key, key_at}
use Rattle.keys.specs.Good.{GoodKey, key_good}
use Rattle.encoder.specs.Encoding.{encoding, sent_of, size_of}
use Rattle.keys.specs.declared.KeyError.{KeyError}
use Rattle.keys.specs.declared.KeyError.TheVariants as key
use Rattle.encoder.specs.declared.EncodeError.{EncodeError}
use Rattle.encoder.specs.declared.EncodeError.TheVariants.{NoKey, BadKey, TooShort}

-- where there is no key, nothing is written, for the same reason
abbrev pub refused : KeyError → EncodeError
refused key.NoKey = NoKey
refused key.BadKey = BadKey

-- the number of an answer
abbrev pub encoded_number : Result ℕ EncodeError → ℕ
encoded_number (Ok count) = 0
encoded_number (Err NoKey) = 1
encoded_number (Err BadKey) = 2
encoded_number (Err TooShort) = 8

-- the values of an answer: how many bytes were written
abbrev pub encoded_values : Result ℕ EncodeError → List ℕ
encoded_values (Ok count) = count ∷ []
encoded_values (Err error) = []

-- what each answer says of exercise n of the sheet and a buffer of so much room
abbrev pub Says : List ℕ → ℕ → ℕ → Result ℕ EncodeError → Type 0
Says sheet n room (Err NoKey) = HasExercise sheet n → ⊥
Says sheet n room (Err BadKey) = HasExercise sheet n × (GoodKey (key_at sheet n) → ⊥)
Says sheet n room (Err TooShort) = HasExercise sheet n × GoodKey (key_at sheet n) × (room < size_of (key_at sheet n))
Says sheet n room (Ok count) =
    HasExercise sheet n × GoodKey (key_at sheet n) × (size_of (key_at sheet n) ≤ room) × (count ≡ size_of (key_at sheet n))

-- buffer too short, as a test: less room than what is to be written
unfoldable pub too_short : List ℕ → ℕ → Bool
too_short k room = ltb room (size_of k)

-- the encoder checks 1, 2, 8
unfoldable pub encode_of : List ℕ → ℕ → ℕ → Result ℕ EncodeError
encode_of sheet n room =
    cond (no_key sheet n) (Err NoKey)
    (cond (not (key_good (key_at sheet n))) (Err BadKey)
    (cond (too_short (key_at sheet n) room) (Err TooShort)
    (Ok (size_of (key_at sheet n)))))

-- the number for them
unfoldable pub encode_number : List ℕ → ℕ → ℕ → ℕ
encode_number sheet n room =
    cond (no_key sheet n) 1
    (cond (not (key_good (key_at sheet n))) 2
    (cond (too_short (key_at sheet n) room) 8 0))

-- the values for them
unfoldable pub encode_values : List ℕ → ℕ → ℕ → List ℕ
encode_values sheet n room =
    cond (no_key sheet n || (not (key_good (key_at sheet n)) || too_short (key_at sheet n) room)) []
    (size_of (key_at sheet n) ∷ [])

-- the buffer after an answer about key k: the encoding, and the bytes beyond stay; every refusal leaves it unchanged
abbrev pub after_of : Result ℕ EncodeError → List ℕ → List ℕ → List ℕ
after_of (Ok count) k out = encoding k (sent_of k) ++ drop count out
after_of (Err error) k out = out

-- the whole of the buffer afterwards
unfoldable pub out_of : List ℕ → ℕ → List ℕ → List ℕ
out_of sheet n out = after_of (encode_of sheet n (length out)) (key_at sheet n) out
