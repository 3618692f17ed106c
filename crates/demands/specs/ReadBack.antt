-- Demand 2: what is written is read back the same, and what is read is written back the same: blocks, groups, the
-- clock, frequencies, the receiver's state. And what the receiver and the record say is read off all that came so far.
use Rattle.std.specs.Prelude.{ℕ, ◌^◌, ◌<◌, ◌≤◌, ◌≡◌, List, [], ◌∷◌, Bool, true, length, Some, Ok}
use Rattle.bits.specs.Bytes.{Bytes, bytes_of}
use Rattle.blocks.specs.Block.{Valid, write_of, found, read_of, judge_of}
use Rattle.blocks.specs.declared.Kind.{Kind}
use Rattle.blocks.specs.declared.Kind.TheVariants.{A, B, D}
use Rattle.groups.specs.Group.{all_good_of}
use Rattle.groups.specs.Header.{third_kind, expected_of}
use Rattle.groups.specs.Written.{group_size, blocks_of, four_blocks, group_bytes, block_in, word_in, group_in}
use Rattle.groups.specs.declared.Group.{Group}
use Rattle.frequencies.specs.Frequency.{frequency_of, code_of}
use Rattle.clock.specs.Words as clock
use Rattle.clock.specs.Words.{Is4A, tp_in, pty_in, plain_of, plain_word2, plain_word4}
use Rattle.clock.specs.declared.Clock.{Clock}
use Rattle.receiver.specs.Answers.{group_of}
use Rattle.receiver.specs.Machine as receiver
use Rattle.receiver.specs.Machine.{step_of, fed_of}
use Rattle.saving.specs.Saving.{state_length, buffer_of, restore_of}
use Rattle.history.specs.Heard.{heard}
use Rattle.station.specs.Record as station
use Rattle.station.specs.Update.{updated_all}
use Rattle.station.specs.History.{record_after}

-- ---- blocks

-- a number of 16 bits
abbrev pub Word : ℕ → Type 0
Word w = w < 2 ^ 16

-- any word, written as a block of any kind, is read as that word and kind, and judged good where that kind is expected;
-- and 26 bits that are read as a word and kind, or judged good, are what that word is written as
pub record BlocksBack : Type 0 where
  pub read-write : (w : ℕ) (k : Kind) → Word w → read_of (write_of w k) ≡ found w k
  pub write_read : (n w : ℕ) (k : Kind) → read_of n ≡ found w k → write_of w k ≡ n
  pub judge-write : (w : ℕ) (k : Kind) → Word w → judge_of (write_of w k) k ≡ Ok w
  pub write-judge : (n w : ℕ) (k : Kind) → judge_of n k ≡ Ok w → write_of w k ≡ n

-- ---- groups

-- any four words as four blocks, each judged good with its word; and four blocks, each judged good as the kind in
-- order, the third by word 2, are what their words are written as
pub record FourBlocksBack : Type 0 where
  pub judge-write : (a b c d : ℕ) → Word a → Word b → Word c → Word d
      → (one two three four : ℕ) → blocks_of (a ∷ b ∷ c ∷ d ∷ []) ≡ one ∷ two ∷ three ∷ four ∷ []
      → (judge_of one A ≡ Ok a) × (judge_of two B ≡ Ok b) × (judge_of three (third_kind b) ≡ Ok c)
      × (judge_of four D ≡ Ok d)
  pub write-judge : (a b c d one two three four : ℕ)
      → judge_of one A ≡ Ok a → judge_of two B ≡ Ok b → judge_of three (third_kind b) ≡ Ok c → judge_of four D ≡ Ok d
      → blocks_of (a ∷ b ∷ c ∷ d ∷ []) ≡ one ∷ two ∷ three ∷ four ∷ []

-- 13 bytes have the four blocks that were written as them, and any 13 bytes are their four blocks, written again. So
-- any four words as 13 bytes are read as the group of these words, all good; and 13 bytes of four valid blocks are what
-- their words are written as
pub record BytesBack : Type 0 where
  pub blocks_read : (a b c d : ℕ) → Word a → Word b → Word c → Word d → (bytes : List ℕ)
      → group_bytes (a ∷ b ∷ c ∷ d ∷ []) ≡ bytes
      → block_in bytes 0 ∷ block_in bytes 1 ∷ block_in bytes 2 ∷ block_in bytes 3 ∷ [] ≡ blocks_of (a ∷ b ∷ c ∷ d ∷ [])
  pub blocks_written : (s : List ℕ) → Bytes s → length s ≡ group_size
      → bytes_of group_size (four_blocks (block_in s 0) (block_in s 1) (block_in s 2) (block_in s 3)) ≡ s
  pub read-write : (a b c d : ℕ) → Word a → Word b → Word c → Word d
      → group_in (group_bytes (a ∷ b ∷ c ∷ d ∷ [])) ≡ all_good_of (a ∷ b ∷ c ∷ d ∷ [])
  pub write_read : (s : List ℕ) → Bytes s → length s ≡ group_size
      → ((i : ℕ) → i < 4 → Valid (expected_of i (word_in s 1)) (block_in s i))
      → group_bytes (word_in s 0 ∷ word_in s 1 ∷ word_in s 2 ∷ word_in s 3 ∷ []) ≡ s

-- ---- clock and frequencies

-- a clock that is written is read back the same, but that offset 0 has no sign, and PI, TP and PTY with it; a 4A that
-- is read is written back the same, but for the bits that are not read (4-2 of word 2) and the sign of offset 0
pub record ClockBack : Type 0 where
  pub read-write : (pi : ℕ) (tp : Bool) (pty : ℕ) (c : Clock) (word1 word2 word3 word4 : ℕ)
      → clock.write_of pi tp pty c ≡ Ok (word1 ∷ word2 ∷ word3 ∷ word4 ∷ [])
      → clock.read_of word2 word3 word4 ≡ Some (plain_of c)
  pub same : (c : Clock) → (c.negative ≡ true → 1 ≤ c.half) → plain_of c ≡ c
  pub head : (pi : ℕ) (tp : Bool) (pty : ℕ) (c : Clock) (word1 word2 word3 word4 : ℕ)
      → clock.write_of pi tp pty c ≡ Ok (word1 ∷ word2 ∷ word3 ∷ word4 ∷ [])
      → (word1 ≡ pi) × Is4A word2 × (tp_in word2 ≡ tp) × (pty_in word2 ≡ pty)
  pub write_read : (word2 word3 word4 : ℕ) → Word word2 → Word word3 → Word word4 → (pi : ℕ) (c : Clock)
      → Is4A word2 → clock.read_of word2 word3 word4 ≡ Some c
      → clock.write_of pi (tp_in word2) (pty_in word2) c ≡ Ok (pi ∷ plain_word2 word2 ∷ word3 ∷ plain_word4 word4 ∷ [])

-- the code of a code's frequency is the code, and the frequency of a frequency's code is the frequency
pub record FrequenciesBack : Type 0 where
  pub code_of-frequency : (c khz : ℕ) → frequency_of c ≡ Ok khz → code_of khz ≡ Ok c
  pub frequency_of-code : (c khz : ℕ) → code_of khz ≡ Ok c → frequency_of c ≡ Ok khz

-- ---- all that came so far

-- a receiver started fresh, after any list of bits, says to the next bit what the definition over all bits says: the
-- answer, and its group, the empty one where none is answered. (Any numbers may come; what is no bit is refused.)
pub record ReceiverAgrees : Type 0 where
  pub answer : (bits : List ℕ) (bit : ℕ) → (step_of (fed_of receiver.fresh_of bits) bit).answer ≡ (heard bits bit).answer
  pub group : (bits : List ℕ) (bit : ℕ)
      → group_of (step_of (fed_of receiver.fresh_of bits) bit).answer ≡ group_of (heard bits bit).answer

-- a receiver so reached, saved in a buffer that is long enough, is restored the same
pub record StateBack : Type 0 where
  pub restore_save : (bits out : List ℕ) → state_length ≤ length out
      → restore_of (buffer_of (fed_of receiver.fresh_of bits) out) ≡ fed_of receiver.fresh_of bits

-- the fresh record, after any list of groups, is what the definition over all groups says
pub record RecordAgrees : Type 0 where
  pub record_after : (groups : List Group) → updated_all station.fresh_of groups ≡ record_after groups

-- the second demand: all of them
pub record Demand2 : Type 0 where
  pub blocks : BlocksBack
  pub four_blocks : FourBlocksBack
  pub bytes : BytesBack
  pub clock : ClockBack
  pub frequencies : FrequenciesBack
  pub receiver : ReceiverAgrees
  pub state : StateBack
  pub station : RecordAgrees
