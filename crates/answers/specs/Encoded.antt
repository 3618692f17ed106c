-- What `encode` writes for an exercise: to standard output the encoding, or, where it is refused, nothing there and the
-- refusal's number to standard error.
use Rattle.std.specs.Prelude.{ℕ, List, [], ◌++◌, Result, Ok, Err, cond, eqb}
use Rattle.letters.specs.Letters.{codes}
use Rattle.keys.specs.Sheet.{key_at}
use Rattle.encoder.specs.declared.EncodeError.{EncodeError}
use Rattle.encoder.specs.Encoding.{encoding, sent_of}
use Rattle.encoder.specs.Answer.{encode_of, encoded_number}
use Rattle.answers.specs.Line.{labelled}

-- room for the longest encoding
abbrev pub output_room : ℕ
output_room = 260

-- what the encoder answers where it has that room
abbrev pub answer_of : List ℕ → ℕ → Result ℕ EncodeError
answer_of sheet n = encode_of sheet n output_room

-- to standard output: the encoding of the key, or nothing
abbrev pub output_text : Result ℕ EncodeError → List ℕ → List ℕ
output_text (Ok count) k = encoding k (sent_of k)
output_text (Err error) k = []

unfoldable pub output_of : List ℕ → ℕ → List ℕ
output_of sheet n = output_text (answer_of sheet n) (key_at sheet n)

-- so many bytes of the encoder's buffer
abbrev pub written_of : Result ℕ EncodeError → ℕ
written_of (Ok count) = count
written_of (Err error) = 0

-- to standard error: the line of a refusal, or nothing
abbrev pub refusal_line : ℕ → List ℕ
refusal_line number = labelled "answer " number ++ codes "\n"

abbrev pub error_text : ℕ → List ℕ
error_text number = cond (eqb number 0) [] (refusal_line number)

unfoldable pub error_of : List ℕ → ℕ → List ℕ
error_of sheet n = error_text (encoded_number (answer_of sheet n))

-- room that is always enough for it: a label, a number of at most 20 digits, and the line's end
abbrev pub error_room : ℕ
error_room = 28
