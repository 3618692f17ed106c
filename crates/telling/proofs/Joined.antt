-- Texts one behind the other: of the pieces of a line, and turn by turn of the elements of a list.
use Prim.Native.Nat.{ℕ, ◌+◌, ◌<◌, ◌≤◌}
use mathlib.Core.Path.{◌≡◌, refl, sym, ap, ◌∙◌}
use mathlib.Core.List.{List, [], ◌∷◌, ◌++◌, append_assoc}
use native.Mathlib.Omega.{arith}
use lib.ListN.{length, get_or, take}
use lib.Seq.{take_all}
use Rattle.letters.specs.Letters.{joined}
use Rattle.letters.proofs.Buffers.{joined_next}
use Rattle.telling.specs.Pieces.{Piece as Shown, piece_of, line_of, most_of, piece_text, line_text}
use Rattle.telling.specs.declared.pieces.Piece.{Piece}
use Rattle.telling.specs.declared.pieces.Piece.TheVariants.{Word, Number, Two, Hex, Character, Silent}

-- the text of a line of the code's pieces is the text of what the pieces stand for
abbrev pub told_text : Piece → List ℕ
told_text piece = piece_text (piece_of piece)

pub joined_pieces : (line : List Piece) → joined told_text line ≡ line_text (line_of line)
joined_pieces [] = refl
joined_pieces (piece ∷ line) = ap (λ (l : List ℕ). told_text piece ++ l) (joined_pieces line)

-- no piece has more than 20 characters
pub most_20 : (piece : Piece) → most_of piece ≤ 20
most_20 (Word word) = omega arith
most_20 (Number number) = omega arith
most_20 (Two number) = omega arith
most_20 (Hex word) = omega arith
most_20 (Character character) = omega arith
most_20 Silent = omega arith

-- a line with another behind it
pub line_append : (one two : List Shown) → line_text (one ++ two) ≡ line_text one ++ line_text two
line_append [] two = refl
line_append (piece ∷ one) two =
    ap (λ (l : List ℕ). piece_text piece ++ l) (line_append one two)
    ∙ sym (append_assoc (piece_text piece) (line_text one) (line_text two))

-- before turn i the texts of the first i elements stand behind what was there
module _ {A : Type 0} (text : A → List ℕ) (xs : List A) (start : List ℕ) where
  pub turn_next : {i : ℕ} {page after : List ℕ} (d : A) → i < length xs → page ≡ start ++ joined text (take i xs)
      → after ≡ page ++ text (get_or xs i d) → after ≡ start ++ joined text (take (i + 1) xs)
  turn_next {i} d h before put =
      put ∙ ap (λ (l : List ℕ). l ++ text (get_or xs i d)) before
      ∙ append_assoc start (joined text (take i xs)) (text (get_or xs i d))
      ∙ ap (λ (l : List ℕ). start ++ l) (sym (joined_next text xs i d h))

  pub turn_last : {i : ℕ} {page : List ℕ} → length xs ≤ i → page ≡ start ++ joined text (take i xs)
      → page ≡ start ++ joined text xs
  turn_last {i} h before = rw (take_all i xs h) at before
