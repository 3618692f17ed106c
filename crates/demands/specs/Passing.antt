-- The third demand: what a passed submission is worth. Four claims, over what the functions promise: `mark` answers
-- `mark_of`; `encode` answers `encode_of` and leaves `out_of` in its buffer; a receiver's `step` is `step_of`; a group that is
-- taken into the record makes it `updated_of`. `Bytes sheet` says that each is below 256, as in a slice of bytes.
use Rattle.std.specs.Prelude.{ℕ, ◌+◌, ◌*◌, ◌/◌, ◌≤◌, ◌<◌, ◌≡◌, ◌↔◌, List, [], ◌∷◌, true, cond, length, take, drop, replicate}
use Rattle.std.specs.Prelude.{Some, Ok}
use Rattle.bits.specs.Bytes.{bit_at, Bytes}
use Rattle.blocks.specs.Damage.{block_bits, Damage}
use Rattle.groups.specs.declared.Group.{Group}
use Rattle.receiver.specs.declared.Receiver.{Receiver}
use Rattle.receiver.specs.Answers.{brings_group, group_of}
use Rattle.receiver.specs.Machine.{step_of, fresh_of as fresh_receiver}
use Rattle.history.specs.Streams.{bits_from}
use Rattle.station.specs.declared.Record.{Record}
use Rattle.station.specs.Record.{fresh_of as fresh_record}
use Rattle.station.specs.Update.{updated_all}
use Rattle.keys.specs.Sheet.{key_at}
use Rattle.keys.specs.Fields.{name_place, text_place, name_pairs, text_pairs, pi_of, pty_of, tp_of, wanted_of}
use Rattle.keys.specs.Wanted.{text_size}
use Rattle.keys.specs.Good.{name_size}
use Rattle.encoder.specs.Encoding.{size_of}
use Rattle.encoder.specs.Answer.{encode_of, out_of}
use Rattle.marker.specs.Verdict.{number_of, place_of}
use Rattle.marker.specs.Submission.{blocks_in}
use Rattle.marker.specs.Mark.{mark_of}
use Rattle.marker.specs.Rules.{GoodLength, Rules, KeyGood}

-- submission s is passed for exercise n of the sheet: the answer is 0
abbrev pub IsPassed : List ℕ → ℕ → List ℕ → Type 0
IsPassed sheet n s = number_of (mark_of sheet n s) ≡ 0

-- ---- a. exactly

-- Passed exactly if the key is there and good, the length is right, and every marking rule holds, each as a statement
-- by itself: every block valid as its kind; every header the key's; every name pair and every text the key's, a 2A only
-- where text is wanted, no 2B, all flags alike; every wanted address there.
abbrev pub PassedExactly : Type 0
PassedExactly =
    (sheet : List ℕ) (n : ℕ) (s : List ℕ) →
    IsPassed sheet n s ↔ (KeyGood sheet n × GoodLength s × Rules (key_at sheet n) s)

-- ---- b. the encoder

-- What the encoder writes for any good key passes: lent a buffer that is long enough, it answers how many bytes it has
-- written, and so many bytes from the front of what it leaves there are passed.
abbrev pub EncodedPasses : Type 0
EncodedPasses =
    (sheet : List ℕ) (n : ℕ) (out : List ℕ) → Bytes sheet → KeyGood sheet n → size_of (key_at sheet n) ≤ length out →
    (count : ℕ) × (encode_of sheet n (length out) ≡ Ok count) × IsPassed sheet n (take count (out_of sheet n out))

-- ---- c. the receiver and the record

-- the bits of a submission, from the first to the last
abbrev pub bits_of : List ℕ → List ℕ
bits_of s = bits_from (bit_at s) 0 (8 * length s)

-- the groups of every answer "group" and "group and lost" that a receiver gives to these bits, in order
unfoldable pub groups_heard : Receiver → List ℕ → List Group
groups_heard r [] = []
groups_heard r (bit ∷ bits) =
    cond (brings_group (step_of r bit).answer)
    (group_of (step_of r bit).answer ∷ groups_heard (step_of r bit).next bits)
    (groups_heard (step_of r bit).next bits)

-- a submission's bits fed to a fresh receiver, and the groups taken into a fresh record
abbrev pub record_heard : List ℕ → Record
record_heard s = updated_all fresh_record (groups_heard fresh_receiver (bits_of s))

-- the name and the text of a key
abbrev pub name_of : List ℕ → List ℕ
name_of k = take name_size (drop name_place k)

abbrev pub text_of : List ℕ → List ℕ
text_of k = take text_size (drop text_place k)

-- a record holds the key's PI, PTY, TP, the whole name and, if wanted, the whole text, each pair of them seen
pub record HoldsKey (k : List ℕ) (station : Record) : Type 0 where
  pub pi : station.pi ≡ Some (pi_of k)
  pub pty : station.pty ≡ pty_of k
  pub tp : station.tp ≡ tp_of k
  pub name : station.name.characters ≡ name_of k
  pub name_seen : station.name.seen ≡ replicate name_pairs true
  pub text : wanted_of k ≡ true → station.text.pairs.characters ≡ text_of k
  pub text_seen : wanted_of k ≡ true → station.text.pairs.seen ≡ replicate text_pairs true

-- A passed submission, heard from its first bit to its last, leaves a record that holds the key.
abbrev pub RecordHoldsKey : Type 0
RecordHoldsKey =
    (sheet : List ℕ) (n : ℕ) (s : List ℕ) → Bytes sheet → IsPassed sheet n s → HoldsKey (key_at sheet n) (record_heard s)

-- ---- d. damage

-- t is s with block j damaged, in one or more bits within ten neighbouring ones or in exactly two: it is as long, and
-- every other block has the same bits
pub record DamagedIn (j : ℕ) (s t : List ℕ) : Type 0 where
  pub there : j < blocks_in s
  pub long : length t ≡ length s
  pub elsewhere : (i : ℕ) → (i / block_bits ≡ j → ⊥) → bit_at t i ≡ bit_at s i
  pub damage : Damage (λ i. bit_at s (block_bits * j + i)) (λ i. bit_at t (block_bits * j + i))

-- A passed submission with one block damaged is answered 4, and the place is that block.
abbrev pub DamageShows : Type 0
DamageShows =
    (sheet : List ℕ) (n : ℕ) (s t : List ℕ) (j : ℕ) → IsPassed sheet n s → DamagedIn j s t →
    (number_of (mark_of sheet n t) ≡ 4) × (place_of (mark_of sheet n t) ≡ j)

-- ---- the demand: all four

pub record Demand3 : Type 0 where
  pub exactly : PassedExactly
  pub encoded : EncodedPasses
  pub recorded : RecordHoldsKey
  pub damaged : DamageShows
