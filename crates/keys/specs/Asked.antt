-- The answer to "the key of exercise n": the key, or the refusal 1 or 2.
use Rattle.std.specs.Prelude.{ℕ, List, Result, Ok, Err, cond, not}
use Rattle.keys.specs.declared.Key.{Key}
use Rattle.keys.specs.declared.KeyError.{KeyError}
use Rattle.keys.specs.declared.KeyError.TheVariants.{NoKey, BadKey}
use Rattle.keys.specs.Sheet.{no_key, key_at}
use Rattle.keys.specs.Good.{key_good}

-- the number of an answer
abbrev pub key_number_of : Result Key KeyError → ℕ
key_number_of (Ok key) = 0
key_number_of (Err NoKey) = 1
key_number_of (Err BadKey) = 2

-- the key with these bytes
abbrev pub given : List ℕ → Result Key KeyError
given bytes = Ok (record { bytes = bytes })

-- no such exercise: 1; a key that is not good: 2; else the key
unfoldable pub key_of : List ℕ → ℕ → Result Key KeyError
key_of sheet n =
    cond (no_key sheet n) (Err NoKey)
    (cond (not (key_good (key_at sheet n))) (Err BadKey) (given (key_at sheet n)))
