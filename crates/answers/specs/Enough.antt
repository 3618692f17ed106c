-- How much need be read: one byte past each limit. What lies beyond makes no difference.
use Rattle.std.specs.Prelude.{ℕ, ◌+◌, ◌≡◌, List, take}
use Rattle.keys.specs.Sheet.{sheet_limit}
use Rattle.marker.specs.Tests.{submission_limit}
use Rattle.answers.specs.Line.{mark_line}
use Rattle.answers.specs.Encoded.{output_of, error_of}

-- 20,481 bytes of the sheet
abbrev pub sheet_room : ℕ
sheet_room = sheet_limit + 1

-- 13,314 bytes of the input: the exercise, and one byte past the limit of a submission
abbrev pub input_room : ℕ
input_room = 1 + submission_limit + 1

-- for every sheet and every input, however long: so much of them gives the line of all of them, and what `encode`
-- writes
pub record ReadEnough : Type 0 where
  pub line : (sheet input : List ℕ) → mark_line (take sheet_room sheet) (take input_room input) ≡ mark_line sheet input
  pub output : (sheet : List ℕ) (n : ℕ) → output_of (take sheet_room sheet) n ≡ output_of sheet n
  pub error : (sheet : List ℕ) (n : ℕ) → error_of (take sheet_room sheet) n ≡ error_of sheet n
