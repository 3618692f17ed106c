-- What the functions inside promise each other; a reader of the public promises needs none of it.
use Rattle.std.specs.Prelude.{ℕ, ◌+◌, ◌*◌, ◌^◌, ◌<◌, ◌≤◌, ◌≡◌, List, length, false, cond, ltb, Option, Some, None}
use Rattle.receiver.specs.declared.Answer.{Answer}
use Rattle.receiver.specs.declared.Answer.TheVariants.{Nothing, Locked}
use Rattle.receiver.specs.declared.Lock.{Lock}
use Rattle.receiver.specs.declared.Receiver.{Receiver}
use Rattle.receiver.specs.declared.Advanced.{Advanced}
use Rattle.receiver.specs.declared.Spot.{Spot}
use Rattle.receiver.specs.declared.Filled.{Filled}
use Rattle.receiver.specs.Rules.{pair_bits, lock_of}
use Rattle.receiver.specs.Machine.{older_of, newer_of, is_hunting_of, hunting_of, locked_of, inside_of}
use Rattle.receiver.specs.Feeding.{byte_bits, is_nothing_of, advance_of}

-- feeding goes on after the answer nothing
abbrev pub then_of : Advanced → List ℕ → Advanced
then_of t s = cond (is_nothing_of t.answer) (advance_of t.next s t.byte t.bit) t

-- a place that the bytes have
abbrev pub IsIn : Spot → List ℕ → Type 0
IsIn spot s = (spot.byte < length s) × (spot.bit < byte_bits)

-- the number of its bit
abbrev pub number_of : Spot → ℕ
number_of spot = byte_bits * spot.byte + spot.bit

-- some bits were fed from a place on: feeding on from there is the whole of it, and the place has moved
pub record Onward (r : Receiver) (s : List ℕ) (from : Spot) (t : Advanced) : Type 0 where
  pub whole : advance_of r s from.byte from.bit ≡ then_of t s
  pub moved : number_of from < byte_bits * t.byte + t.bit
  pub within : t.bit < byte_bits

-- one more than the largest number of 52 bits
abbrev pub window_limit : ℕ
window_limit = 2 ^ pair_bits

-- hunting: whether the last bits lock, where there were `count` before the last of them
unfoldable pub lock_after_of : ℕ → ℕ → Option Lock
lock_after_of window count = cond (ltb (count + 1) pair_bits) None (lock_of (older_of window) (newer_of window))

-- and how many there are then
unfoldable pub count_after_of : ℕ → ℕ
count_after_of count = cond (ltb (count + 1) pair_bits) (count + 1) pair_bits

-- the state where the last bits were tried, and what is answered then
abbrev pub hunted_of : Option Lock → ℕ → ℕ → Receiver
hunted_of (Some lock) window count = locked_of lock.kind lock.older lock.newer
hunted_of None window count = hunting_of window count

abbrev pub lock_answer_of : Option Lock → Answer
lock_answer_of (Some lock) = Locked
lock_answer_of None = Nothing

-- a state with other bits: hunting, it has nothing else
unfoldable pub taken_in_of : Receiver → ℕ → ℕ → Receiver
taken_in_of r window count = cond (is_hunting_of r.place) (hunting_of window count) (inside_of r window count)

-- some bits were taken in from a place on: feeding on from there is the whole of it, for a hunting state
pub record Heard (window count : ℕ) (s : List ℕ) (from : Spot) (t : Filled) : Type 0 where
  pub whole : advance_of (hunting_of window count) s from.byte from.bit
      ≡ advance_of (hunting_of t.window t.count) s t.spot.byte t.spot.bit
  pub moved : number_of from ≤ number_of t.spot
  pub within : t.spot.bit < byte_bits

-- for every locked state
pub record Filling (window count : ℕ) (s : List ℕ) (from : Spot) (t : Filled) : Type 0 where
  pub whole : (r : Receiver) → is_hunting_of r.place ≡ false
      → advance_of (inside_of r window count) s from.byte from.bit
      ≡ advance_of (inside_of r t.window t.count) s t.spot.byte t.spot.bit
  pub moved : number_of from ≤ number_of t.spot
  pub within : t.spot.bit < byte_bits

-- for any state
pub record Taken (r : Receiver) (s : List ℕ) (from : Spot) (t : Filled) : Type 0 where
  pub whole : advance_of r s from.byte from.bit ≡ advance_of (taken_in_of r t.window t.count) s t.spot.byte t.spot.bit
  pub moved : number_of from ≤ number_of t.spot
  pub within : t.spot.bit < byte_bits
