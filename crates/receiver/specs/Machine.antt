-- The receiver as a machine: its fresh state, and what one bit makes of any state.
use Rattle.std.specs.Prelude.{ℕ, ◌+◌, ◌*◌, ◌-◌, ◌/◌, ◌%◌, ◌^◌, List, [], ◌∷◌, Bool, true, false, cond, ltb}
use Rattle.std.specs.Prelude.{Ok, Err, Option, Some, None}
use Rattle.blocks.specs.Block.{Judged, judge_of}
use Rattle.blocks.specs.Damage.{block_bits}
use Rattle.blocks.specs.declared.Kind.{Kind}
use Rattle.blocks.specs.declared.Kind.TheVariants.{A, B, C, CPrime, D}
use Rattle.blocks.specs.declared.BlockError.TheVariants.{Bad}
use Rattle.groups.specs.declared.Group.{Group}
use Rattle.groups.specs.Group.{empty_of, with_block_of}
use Rattle.groups.specs.Header.{third_kind}
use Rattle.receiver.specs.declared.Place.{Place}
use Rattle.receiver.specs.declared.Place.TheVariants.{Hunting, First, Second, Fourth}
use Rattle.receiver.specs.declared.Place.TheVariants.{ThirdC, ThirdCPrime, ThirdBad}
use Rattle.receiver.specs.declared.Lock.{Lock}
use Rattle.receiver.specs.declared.Answer.TheVariants as answer
use Rattle.receiver.specs.declared.Run.{Run}
use Rattle.receiver.specs.declared.Receiver.{Receiver}
use Rattle.receiver.specs.declared.Step.{Step}
use Rattle.receiver.specs.Rules.{pair_bits, run_blocks, lock_of, is_bad_of, loses_of, say_of}

-- ---- the window: the last bits as a number, the newest lowest

-- one bit more; of the older ones 51 are kept
abbrev pub shift_of : ℕ → ℕ → ℕ
shift_of window bit = window % 2 ^ (pair_bits - 1) * 2 + bit

-- the last 26 bits, and the 26 before them
abbrev pub newer_of : ℕ → ℕ
newer_of window = window % 2 ^ block_bits

abbrev pub older_of : ℕ → ℕ
older_of window = window / 2 ^ block_bits

-- ---- states

-- hunting, with so many of the last bits
abbrev pub hunting_of : ℕ → ℕ → Receiver
hunting_of window count =
    record { window = window; count = count; place = Hunting; held = false; hand = empty_of; run = 0; bad = 0 }

-- hunting begins with no bits
abbrev pub fresh_of : Receiver
fresh_of = hunting_of 0 0

-- a block begins at this place; whether a group is in hand, and what of it
abbrev pub begin_of : Place → Bool → Group → ℕ → ℕ → Receiver
begin_of place held hand run bad =
    record { window = 0; count = 0; place = place; held = held; hand = hand; run = run; bad = bad }

-- the place that expects a kind
abbrev pub place_of : Kind → Place
place_of A = First
place_of B = Second
place_of C = ThirdC
place_of CPrime = ThirdCPrime
place_of D = Fourth

-- the place after the second: by its version, or bad after a bad second block
abbrev pub third_place_of : Judged → Place
third_place_of (Ok word2) = place_of (third_kind word2)
third_place_of (Err error) = ThirdBad

-- after A,B the group in hand has two blocks; after D,A it has one; otherwise none is in hand until the next first place
abbrev pub locked_of : Kind → ℕ → ℕ → Receiver
locked_of A older newer =
    begin_of (third_place_of (Ok newer)) true (with_block_of (with_block_of empty_of 0 (Ok older)) 1 (Ok newer)) 0 0
locked_of B older newer = begin_of Fourth false empty_of 0 0
locked_of C older newer = begin_of First true empty_of 0 0
locked_of CPrime older newer = begin_of First true empty_of 0 0
locked_of D older newer = begin_of Second true (with_block_of empty_of 0 (Ok newer)) 0 0

-- ---- places

-- hunting, and not locked
abbrev pub is_hunting_of : Place → Bool
is_hunting_of Hunting = true
is_hunting_of First = false
is_hunting_of Second = false
is_hunting_of ThirdC = false
is_hunting_of ThirdCPrime = false
is_hunting_of ThirdBad = false
is_hunting_of Fourth = false

-- the place of a block in its group, from 0
abbrev pub index_of : Place → ℕ
index_of Hunting = 0
index_of First = 0
index_of Second = 1
index_of ThirdC = 2
index_of ThirdCPrime = 2
index_of ThirdBad = 2
index_of Fourth = 3

-- a block at its place: good exactly if valid as the expected kind; nothing is expected while hunting
abbrev pub judge_at_of : Place → ℕ → Judged
judge_at_of Hunting bits = Err Bad
judge_at_of First bits = judge_of bits A
judge_at_of Second bits = judge_of bits B
judge_at_of ThirdC bits = judge_of bits C
judge_at_of ThirdCPrime bits = judge_of bits CPrime
judge_at_of ThirdBad bits = Err Bad
judge_at_of Fourth bits = judge_of bits D

-- the place after it
abbrev pub after_of : Place → Judged → Place
after_of Hunting judged = Hunting
after_of First judged = Second
after_of Second judged = third_place_of judged
after_of ThirdC judged = Fourth
after_of ThirdCPrime judged = Fourth
after_of ThirdBad judged = Fourth
after_of Fourth judged = First

-- with the fourth block, the group in hand is answered
abbrev pub completes_of : Place → Bool → Bool
completes_of Hunting held = false
completes_of First held = false
completes_of Second held = false
completes_of ThirdC held = false
completes_of ThirdCPrime held = false
completes_of ThirdBad held = false
completes_of Fourth held = held

-- after the fourth block a group is in hand again
abbrev pub held_of : Place → Bool → Bool
held_of Hunting held = held
held_of First held = held
held_of Second held = held
held_of ThirdC held = held
held_of ThirdCPrime held = held
held_of ThirdBad held = held
held_of Fourth held = true

-- and nothing of it has come
abbrev pub hand_of : Place → Group → Group
hand_of Hunting hand = hand
hand_of First hand = hand
hand_of Second hand = hand
hand_of ThirdC hand = hand
hand_of ThirdCPrime hand = hand
hand_of ThirdBad hand = hand
hand_of Fourth hand = empty_of

-- a group where there is one; else the empty one
abbrev pub given_of : Bool → Group → Group
given_of done hand = cond done hand empty_of

-- ---- runs

-- the bad blocks of a run with one block more; they are never counted past the run's blocks
abbrev pub bad_with_of : ℕ → Judged → ℕ
bad_with_of bad judged = cond (is_bad_of judged) (cond (ltb bad run_blocks) (bad + 1) bad) bad

-- one block more in the run, which ends with its 50th block: lock is lost, or both counts start anew
unfoldable pub counted_of : ℕ → ℕ → Judged → Run
counted_of run bad judged =
    cond (ltb (run + 1) run_blocks) (record { run = run + 1; bad = bad_with_of bad judged; lost = false })
    (record { run = 0; bad = 0; lost = loses_of (bad_with_of bad judged) })

-- ---- one bit

-- no answer but the state
abbrev pub silent_of : Receiver → Step
silent_of r = record { next = r; answer = answer.Nothing }

-- the last 52 bits were tried
abbrev pub tried_of : ℕ → Option Lock → Step
tried_of window (Some lock) =
    record { next = locked_of lock.kind lock.older lock.newer; answer = answer.Locked }
tried_of window None = silent_of (hunting_of window pair_bits)

-- a bit while hunting
unfoldable pub hunt_of : ℕ → ℕ → ℕ → Step
hunt_of window count bit =
    cond (ltb (count + 1) pair_bits) (silent_of (hunting_of (shift_of window bit) (count + 1)))
    (tried_of (shift_of window bit) (lock_of (older_of (shift_of window bit)) (newer_of (shift_of window bit))))

-- the state with one bit more inside a block
abbrev pub inside_of : Receiver → ℕ → ℕ → Receiver
inside_of r window count =
    record
    { window = window; count = count; place = r.place; held = r.held; hand = r.hand; run = r.run; bad = r.bad }

-- a block at a place has ended; `hand` is the group with it, `run` the run with it; after a loss the state is fresh
unfoldable pub ended_of : Place → Bool → Judged → Group → Run → Step
ended_of place held judged hand run =
    record {
      next = cond run.lost fresh_of
          (begin_of (after_of place judged) (held_of place held) (hand_of place hand) run.run run.bad);
      answer = say_of (completes_of place held) run.lost hand;
    }

-- a block's end: the block goes into the group in hand and into the run
abbrev pub end_of : Receiver → Judged → Step
end_of r judged =
    ended_of r.place r.held judged (with_block_of r.hand (index_of r.place) judged)
    (counted_of r.run r.bad judged)

-- a bit while locked
unfoldable pub follow_of : Receiver → ℕ → Step
follow_of r bit =
    cond (ltb (r.count + 1) block_bits) (silent_of (inside_of r (shift_of r.window bit) (r.count + 1)))
    (end_of r (judge_at_of r.place (newer_of (shift_of r.window bit))))

-- one bit: a bit that is neither 0 nor 1 is refused and changes nothing
unfoldable pub step_of : Receiver → ℕ → Step
step_of r bit =
    cond (ltb 1 bit) (record { next = r; answer = answer.Refused })
    (cond (is_hunting_of r.place) (hunt_of r.window r.count bit) (follow_of r bit))

-- the state after bits, the first of them first
unfoldable pub fed_of : Receiver → List ℕ → Receiver
fed_of r [] = r
fed_of r (bit ∷ bits) = fed_of (step_of r bit).next bits
