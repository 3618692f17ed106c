-- Pieces: what a line is made of, each with the characters that it is shown as.
use Rattle.std.specs.Prelude.{ℕ, List, [], map, take}
use Rattle.letters.specs.Letters.{hex_four, last_two, decimal_of, character_text, joined}
use Rattle.telling.specs.declared.pieces.Piece.{Piece as Told}
use Rattle.telling.specs.declared.pieces.Piece.TheVariants as told

-- a word, a number in decimal, the last two digits of one, a word of a group in hexadecimal, a character, or nothing
pub data Piece : Type 0 where
  Word : List ℕ → Piece
  Number : ℕ → Piece
  Two : ℕ → Piece
  Hex : ℕ → Piece
  Character : ℕ → Piece
  Silent : Piece

abbrev pub piece_text : Piece → List ℕ
piece_text (Word letters) = letters
piece_text (Number number) = decimal_of number
piece_text (Two number) = last_two number
piece_text (Hex word) = hex_four word
piece_text (Character character) = character_text character
piece_text Silent = []

-- one behind the other
abbrev pub line_text : List Piece → List ℕ
line_text line = joined piece_text line

-- ---- the pieces of the code

-- of a word at most 20 letters are told
abbrev pub piece_of : Told → Piece
piece_of (told.Word word) = Word (take 20 word.now)
piece_of (told.Number number) = Number number
piece_of (told.Two number) = Two number
piece_of (told.Hex word) = Hex word
piece_of (told.Character character) = Character character
piece_of told.Silent = Silent

abbrev pub line_of : List Told → List Piece
line_of line = map piece_of line

-- how many characters a piece has at most
abbrev pub most_of : Told → ℕ
most_of (told.Word word) = 20
most_of (told.Number number) = 20
most_of (told.Two number) = 2
most_of (told.Hex word) = 4
most_of (told.Character character) = 4
most_of told.Silent = 0
