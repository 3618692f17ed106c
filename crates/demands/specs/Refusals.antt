-- Demand 1: each refusal is given with its number exactly if the table says so, and leaves what was lent as it was. A
-- claim for each row of the table, 1 to 12, for every function that gives its number. Sheets, submissions and the bits
-- of a block are only looked at, and cannot change; lent or handed back are the buffers and the receiver's state.
use Rattle.std.specs.Prelude.{ℕ, ◌+◌, ◌^◌, ◌<◌, ◌≤◌, ◌≡◌, List, Bool, ◌↔◌, ◌⊎◌, length, Option}
use Rattle.blocks.specs.Block.{read_of, judge_of}
use Rattle.blocks.specs.Answers.{found_number, judged_number}
use Rattle.blocks.specs.declared.Kind.{Kind}
use Rattle.groups.specs.Written.{group_size, put_at_of, put_number, buffer_of}
use Rattle.frequencies.specs.Frequency.{first_code, last_code, khz_of, frequency_of, frequency_number, code_of, code_number}
use Rattle.clock.specs.Words.{NoWords, write_of, number_of_written}
use Rattle.clock.specs.Local.{NoDate, local_date_of, number_of_local}
use Rattle.clock.specs.declared.Clock.{Clock}
use Rattle.receiver.specs.Machine.{step_of}
use Rattle.receiver.specs.Feeding.{advance_of}
use Rattle.receiver.specs.Answers.{answer_number}
use Rattle.receiver.specs.declared.Receiver.{Receiver}
use Rattle.letters.specs.Told as told
use Rattle.letters.specs.Told.{told_of, told_number}
use Rattle.saving.specs.Saving as saving
use Rattle.saving.specs.Saving.{state_length, save_of, saved_number}
use Rattle.station.specs.Record.{held_clock_of}
use Rattle.station.specs.declared.Record.{Record}
use Rattle.keys.specs.Sheet.{key_at}
use Rattle.keys.specs.Good.{GoodKey}
use Rattle.keys.specs.Asked.{key_of, key_number_of}
use Rattle.encoder.specs.Answer.{encode_of, encoded_number, out_of}
use Rattle.marker.specs.Submission.{groups_in}
use Rattle.marker.specs.Rules.{BlocksRight}
use Rattle.marker.specs.Unmarked.{Alike}
use Rattle.marker.specs.Mark.{mark_of}
use Rattle.marker.specs.Verdict.{number_of, place_of}
use Rattle.demands.specs.When.{NoExercise, WrongLength, Opened, FirstInvalid, HeaderWrong, ContentWrong}
use Rattle.demands.specs.When.{NoneBefore, LowestMissing, TooShort}

-- the columns "No." and "Place" of what the marker answers
abbrev pub Marked : List ℕ → ℕ → List ℕ → ℕ → ℕ → Type 0
Marked sheet n s number place = (number_of (mark_of sheet n s) ≡ number) × (place_of (mark_of sheet n s) ≡ place)

-- the encoder's number for a buffer of so much room, and that a refusal with it leaves the buffer unchanged
abbrev pub encoded : List ℕ → ℕ → ℕ → ℕ
encoded sheet n room = encoded_number (encode_of sheet n room)

abbrev pub BufferStays : ℕ → Type 0
BufferStays number =
    (sheet : List ℕ) (n : ℕ) (out : List ℕ) → encoded sheet n (length out) ≡ number → out_of sheet n out ≡ out

-- 1, place 0: key sheet length 0, no multiple of 80, or over 20,480; or no such exercise
pub record RowOne : Type 0 where
  pub mark : (sheet : List ℕ) (n : ℕ) (s : List ℕ) → Marked sheet n s 1 0 ↔ NoExercise sheet n
  pub place : (sheet : List ℕ) (n : ℕ) (s : List ℕ) (p : ℕ) → Marked sheet n s 1 p → p ≡ 0
  pub key_of : (sheet : List ℕ) (n : ℕ) → (key_number_of (key_of sheet n) ≡ 1) ↔ NoExercise sheet n
  pub encode : (sheet : List ℕ) (n room : ℕ) → (encoded sheet n room ≡ 1) ↔ NoExercise sheet n
  pub encode_same : BufferStays 1

-- 2, place 0: key not good
pub record RowTwo : Type 0 where
  pub mark : (sheet : List ℕ) (n : ℕ) (s : List ℕ)
      → Marked sheet n s 2 0 ↔ ((NoExercise sheet n → ⊥) × (GoodKey (key_at sheet n) → ⊥))
  pub place : (sheet : List ℕ) (n : ℕ) (s : List ℕ) (p : ℕ) → Marked sheet n s 2 p → p ≡ 0
  pub key_of : (sheet : List ℕ) (n : ℕ)
      → (key_number_of (key_of sheet n) ≡ 2) ↔ ((NoExercise sheet n → ⊥) × (GoodKey (key_at sheet n) → ⊥))
  pub encode : (sheet : List ℕ) (n room : ℕ)
      → (encoded sheet n room ≡ 2) ↔ ((NoExercise sheet n → ⊥) × (GoodKey (key_at sheet n) → ⊥))
  pub encode_same : BufferStays 2

-- 3, place 0: submission length 0, no multiple of 13, or over 13,312
pub record RowThree : Type 0 where
  pub mark : (sheet : List ℕ) (n : ℕ) (s : List ℕ)
      → Marked sheet n s 3 0 ↔ ((NoExercise sheet n → ⊥) × GoodKey (key_at sheet n) × WrongLength s)
  pub place : (sheet : List ℕ) (n : ℕ) (s : List ℕ) (p : ℕ) → Marked sheet n s 3 p → p ≡ 0

-- 4: a block not valid as its kind (third: by word 2 of its group); first such block, from 0
pub record RowFour : Type 0 where
  pub mark : (sheet : List ℕ) (n : ℕ) (s : List ℕ) (j : ℕ)
      → Marked sheet n s 4 j ↔ (Opened sheet n s × FirstInvalid s j)

-- 5: PI, TP or PTY not the key's, or version 1 and third word not the key's PI; group, from 0. 4 comes first, over the
-- whole submission; then 5 and 6 group by group
pub record RowFive : Type 0 where
  pub mark : (sheet : List ℕ) (n : ℕ) (s : List ℕ) (g : ℕ)
      → Marked sheet n s 5 g
      ↔ (Opened sheet n s × BlocksRight s × (g < groups_in s) × NoneBefore (key_at sheet n) s g
      × HeaderWrong (key_at sheet n) s g)

-- 6: name pair or 2A text not the key's; 2A flag unlike the first 2A's; 2B at all; 2A when no text is wanted; group.
-- Within a group 5 comes before 6
pub record RowSix : Type 0 where
  pub mark : (sheet : List ℕ) (n : ℕ) (s : List ℕ) (g : ℕ)
      → Marked sheet n s 6 g
      ↔ (Opened sheet n s × BlocksRight s × (g < groups_in s) × NoneBefore (key_at sheet n) s g
      × (HeaderWrong (key_at sheet n) s g → ⊥) × ContentWrong (key_at sheet n) s g)

-- 7: a name address (0-3) or wanted text address (4-19) missing; the place is the lowest address that never came
pub record RowSeven : Type 0 where
  pub mark : (sheet : List ℕ) (n : ℕ) (s : List ℕ) (a : ℕ)
      → Marked sheet n s 7 a
      ↔ (Opened sheet n s × BlocksRight s × NoneBefore (key_at sheet n) s (groups_in s)
      × LowestMissing (key_at sheet n) s a)

-- 8: encoder: buffer too short; also a buffer for a group, from byte `at` on, one for a receiver's state, and one for a
-- text (a line of `mark` or `listen`, what `encode` writes)
pub record RowEight : Type 0 where
  pub encode : (sheet : List ℕ) (n room : ℕ)
      → (encoded sheet n room ≡ 8)
      ↔ ((NoExercise sheet n → ⊥) × GoodKey (key_at sheet n) × TooShort (key_at sheet n) room)
  pub encode_same : BufferStays 8
  pub put_at : (out : List ℕ) (at : ℕ) → (put_number (put_at_of out at) ≡ 8) ↔ (length out < at + group_size)
  pub put_at_same : (words out : List ℕ) (at : ℕ) → put_number (put_at_of out at) ≡ 8 → buffer_of words out at ≡ out
  pub save : (out : List ℕ) → (saved_number (save_of out) ≡ 8) ↔ (length out < state_length)
  pub save_same : (r : Receiver) (out : List ℕ) → saved_number (save_of out) ≡ 8 → saving.buffer_of r out ≡ out
  pub tell : (text out : List ℕ) → (told_number (told_of text out) ≡ 8) ↔ (length out < length text)
  pub tell_same : (text out : List ℕ) → told_number (told_of text out) ≡ 8 → told.buffer_of text out ≡ out

-- 9: receiver: bit neither 0 nor 1. The bits of bytes are never refused
pub record RowNine : Type 0 where
  pub step : (r : Receiver) (bit : ℕ)
      → (answer_number (step_of r bit).answer ≡ 9) ↔ ((bit ≡ 0 → ⊥) × (bit ≡ 1 → ⊥))
  pub step_same : (r : Receiver) (bit : ℕ) → answer_number (step_of r bit).answer ≡ 9 → (step_of r bit).next ≡ r
  pub advance : (r : Receiver) (s : List ℕ) (byte bit : ℕ) → answer_number (advance_of r s byte bit).answer ≡ 9 → ⊥

-- 10: clock field out of the ranges above, or PTY over 31 (writing); no clock held, or UTC or local day out of range
-- (date), of any clock that is held and of the one that a station record holds
pub record RowTen : Type 0 where
  pub write : (pi : ℕ) (tp : Bool) (pty : ℕ) (clock : Clock)
      → (number_of_written (write_of pi tp pty clock) ≡ 10) ↔ NoWords pty clock
  pub local_date : (held : Option Clock) → (number_of_local (local_date_of held) ≡ 10) ↔ NoDate held
  pub record_date : (station : Record)
      → (number_of_local (local_date_of (held_clock_of station)) ≡ 10) ↔ NoDate (held_clock_of station)

-- 11: frequency asked for a code outside 1-204, or code for kHz that none has
pub record RowEleven : Type 0 where
  pub frequency : (code : ℕ) → (frequency_number (frequency_of code) ≡ 11) ↔ ((code < first_code) ⊎ (last_code < code))
  pub code : (khz : ℕ)
      → (code_number (code_of khz) ≡ 11) ↔ ((c : ℕ) → first_code ≤ c → c ≤ last_code → khz_of c ≡ khz → ⊥)

-- 12: block over 26 bits
pub record RowTwelve : Type 0 where
  pub read : (n : ℕ) → (found_number (read_of n) ≡ 12) ↔ (2 ^ 26 ≤ n)
  pub judge : (n : ℕ) (k : Kind) → (judged_number (judge_of n k) ≡ 12) ↔ (2 ^ 26 ≤ n)

-- TA, M/S, DI and AF are not marked: two submissions that are alike but for these are answered alike
abbrev pub NotMarked : Type 0
NotMarked = (sheet : List ℕ) (n : ℕ) (s t : List ℕ) → Alike s t → mark_of sheet n s ≡ mark_of sheet n t

-- the first demand: all of them
pub record Demand1 : Type 0 where
  pub one : RowOne
  pub two : RowTwo
  pub three : RowThree
  pub four : RowFour
  pub five : RowFive
  pub six : RowSix
  pub seven : RowSeven
  pub eight : RowEight
  pub nine : RowNine
  pub ten : RowTen
  pub eleven : RowEleven
  pub twelve : RowTwelve
  pub not-marked : NotMarked
