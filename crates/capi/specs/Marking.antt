-- The encoder's answer as one number.
use Rattle.std.specs.Prelude.{ℕ, Result, Ok, Err}
use Rattle.encoder.specs.declared.EncodeError.{EncodeError}
use Rattle.encoder.specs.declared.EncodeError.TheVariants.{NoKey, BadKey, TooShort}

-- how many bytes were written, 52 or 260; 1, 2 or 8 where it is refused
abbrev pub encoded_code : Result ℕ EncodeError → ℕ
encoded_code (Ok count) = count
encoded_code (Err NoKey) = 1
encoded_code (Err BadKey) = 2
encoded_code (Err TooShort) = 8
