-- The words of a 4A group: the clock that they carry, and the words that a clock is written as.
use Rattle.std.specs.Prelude.{ℕ, ◌+◌, ◌-◌, ◌*◌, ◌/◌, ◌%◌, ◌^◌, ◌<◌, ◌≡◌, Bool, cond, not, ◌&&◌, ◌||◌, ◌⊎◌, List, [], ◌∷◌, eqb, ltb, Option, Some, None, Result, Ok, Err}
use Rattle.clock.specs.declared.Clock.{Clock}
use Rattle.clock.specs.declared.OutOfRange.{OutOfRange}
use Rattle.clock.specs.Range.{InRange, in_range, last_pty}

-- Bits high to low of a word, as a number.
abbrev pub bits : ℕ → ℕ → ℕ → ℕ
bits high low word = word / 2 ^ low % 2 ^ (high + 1 - low)

-- Bits 1-0 of word 2, then bits 15-1 of word 3: the day number, high bits first.
abbrev pub day_in : ℕ → ℕ → ℕ
day_in word2 word3 = bits 1 0 word2 * 2 ^ 15 + bits 15 1 word3

-- Bit 0 of word 3 and bits 15-12 of word 4: hour.
abbrev pub hour_in : ℕ → ℕ → ℕ
hour_in word3 word4 = bits 0 0 word3 * 2 ^ 4 + bits 15 12 word4

-- Bits 4-0: local offset in half hours.
abbrev pub half_in : ℕ → ℕ
half_in word4 = bits 4 0 word4

-- The clock in the words: bits 11-6 of word 4 are the minute, bit 5 is the sign (1 negative); sign 1 with offset 0
-- reads as 0.
unfoldable pub clock_in : ℕ → ℕ → ℕ → Clock
clock_in word2 word3 word4 =
    record {
      day = record { 0 = day_in word2 word3 };
      hour = hour_in word3 word4;
      minute = bits 11 6 word4;
      negative = eqb (bits 5 5 word4) 1 && not (eqb (half_in word4) 0);
      half = half_in word4;
    }

-- A clock is taken only if it is in range.
unfoldable pub read_of : ℕ → ℕ → ℕ → Option Clock
read_of word2 word3 word4 =
    cond (not (in_range (clock_in word2 word3 word4))) None (Some (clock_in word2 word3 word4))

-- Reading is no refusal of the table: number 0 in both cases.
abbrev pub number_of_held : Option Clock → ℕ
number_of_held (Some clock) = 0
number_of_held None = 0

-- The values of a clock: day, hour, minute, sign, half hours.
abbrev pub clock_values : Clock → List ℕ
clock_values clock =
    clock.day.0 ∷ clock.hour ∷ clock.minute ∷ cond clock.negative 1 0 ∷ clock.half ∷ []

abbrev pub values_of_held : Option Clock → List ℕ
values_of_held (Some clock) = clock_values clock
values_of_held None = []

-- The sign is written 0 with offset 0.
abbrev pub sign_of : Clock → ℕ
sign_of clock = cond (clock.negative && not (eqb clock.half 0)) 1 0

-- Word 2 of a 4A: type 4, version 0, TP, PTY, bits 4-2 zero, the high two bits of the day.
unfoldable pub word2_of : Bool → ℕ → Clock → ℕ
word2_of tp pty clock = 4 * 2 ^ 12 + cond tp 1 0 * 2 ^ 10 + pty * 2 ^ 5 + clock.day.0 / 2 ^ 15

-- Word 3: the low 15 bits of the day, the high bit of the hour.
unfoldable pub word3_of : Clock → ℕ
word3_of clock = clock.day.0 % 2 ^ 15 * 2 + clock.hour / 2 ^ 4

-- Word 4: the low four bits of the hour, minute, sign, half hours.
unfoldable pub word4_of : Clock → ℕ
word4_of clock = clock.hour % 2 ^ 4 * 2 ^ 12 + clock.minute * 2 ^ 6 + sign_of clock * 2 ^ 5 + clock.half

-- Refused: a clock field out of range, or PTY over 31.
abbrev pub NoWords : ℕ → Clock → Type 0
NoWords pty clock = (InRange clock → ⊥) ⊎ (last_pty < pty)

-- The same as a test.
unfoldable pub write_refused : ℕ → Clock → Bool
write_refused pty clock = not (in_range clock) || ltb last_pty pty

-- The refusal, which says no more than that something is out of range.
abbrev pub out_of_range : OutOfRange
out_of_range = record {}

-- The four words.
abbrev pub words_of : ℕ → Bool → ℕ → Clock → List ℕ
words_of pi tp pty clock = pi ∷ word2_of tp pty clock ∷ word3_of clock ∷ word4_of clock ∷ []

unfoldable pub write_of : ℕ → Bool → ℕ → Clock → Result (List ℕ) OutOfRange
write_of pi tp pty clock = cond (write_refused pty clock) (Err out_of_range) (Ok (words_of pi tp pty clock))

-- The table's number of each case.
abbrev pub number_of_written : Result (List ℕ) OutOfRange → ℕ
number_of_written (Err e) = 10
number_of_written (Ok words) = 0

-- The values of each case: the four words.
abbrev pub values_of_written : Result (List ℕ) OutOfRange → List ℕ
values_of_written (Err e) = []
values_of_written (Ok words) = words

-- ---- What a clock read back, and words written back, may differ in

-- The clock with sign 0 where the offset is 0.
unfoldable pub plain_of : Clock → Clock
plain_of clock =
    record {
      day = clock.day;
      hour = clock.hour;
      minute = clock.minute;
      negative = clock.negative && not (eqb clock.half 0);
      half = clock.half;
    }

-- Word 2 of a 4A: type 4, version 0.
abbrev pub Is4A : ℕ → Type 0
Is4A word2 = (bits 15 12 word2 ≡ 4) × (bits 11 11 word2 ≡ 0)

-- TP and PTY of word 2.
abbrev pub tp_in : ℕ → Bool
tp_in word2 = eqb (bits 10 10 word2) 1

abbrev pub pty_in : ℕ → ℕ
pty_in word2 = bits 9 5 word2

-- Word 2 with bits 4-2 zero.
abbrev pub plain_word2 : ℕ → ℕ
plain_word2 word2 = word2 - bits 4 2 word2 * 2 ^ 2

-- Word 4 with sign 0 where the offset is 0.
abbrev pub plain_word4 : ℕ → ℕ
plain_word4 word4 = word4 - cond (eqb (half_in word4) 0) (bits 5 5 word4) 0 * 2 ^ 5
