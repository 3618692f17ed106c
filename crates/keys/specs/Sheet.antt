-- The key sheet: records of 80 bytes, no header, 1 to 256 of them; exercise n is record n from 0.
use Rattle.std.specs.Prelude.{ℕ, ◌*◌, ◌/◌, ◌%◌, ◌≤◌, ◌<◌, ◌≡◌, List, Bool, not, ◌||◌, length, take, drop, eqb, ltb, leb}

-- bytes of a record
abbrev pub record_size : ℕ
record_size = 80

-- the most records that a sheet has
abbrev pub most_records : ℕ
most_records = 256

-- the longest sheet in bytes
abbrev pub sheet_limit : ℕ
sheet_limit = 20480

-- the sheet is 1 to 256 whole records, and record n is one of them
pub record HasExercise (sheet : List ℕ) (n : ℕ) : Type 0 where
  pub records : ℕ
  pub whole : length sheet ≡ record_size * records
  pub some : 1 ≤ records
  pub few : records ≤ most_records
  pub there : n < records

-- the test of answer 1: length 0, no multiple of 80, or over 20,480; or no such exercise
unfoldable pub no_key : List ℕ → ℕ → Bool
no_key sheet n =
    eqb (length sheet) 0
    || (not (eqb (length sheet % record_size) 0)
    || (ltb sheet_limit (length sheet) || leb (length sheet / record_size) n))

-- the 80 bytes of exercise n
unfoldable pub key_at : List ℕ → ℕ → List ℕ
key_at sheet n = take record_size (drop (record_size * n) sheet)
