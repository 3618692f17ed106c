-- The receiver over all the bits that came, with no counters: what is heard with each bit is read off the bits.
use Rattle.std.specs.Prelude.{ℕ, ◌-◌, ◌/◌, ◌%◌, List, [], ◌∷◌, ◌++◌, Bool, cond, eqb, ltb, leb, length, drop}
use Rattle.blocks.specs.Damage.{block_bits}
use Rattle.blocks.specs.declared.Kind.{Kind}
use Rattle.receiver.specs.declared.Lock.{Lock}
use Rattle.std.specs.Prelude.{Option, Some, None}
use Rattle.receiver.specs.declared.Answer.{Answer}
use Rattle.receiver.specs.declared.Answer.TheVariants as answer
use Rattle.receiver.specs.Rules.{pair_bits, lock_of, say_of}
use Rattle.history.specs.Locked.{block_of, judged_in, group_from, group_start, completes_at, loses_at}

-- ---- what has come

-- hunting: the bits since hunting began; locked: the kind of the older block of the locking pair, and the bits from
-- that block's first on, the pair included
pub data Phase : Type 0 where
  hunting : List ℕ → Phase
  locked : Kind → List ℕ → Phase

-- what is heard with a bit: what has come now, and the answer, which holds the group that is answered
pub record Heard : Type 0 where
  pub phase : Phase
  pub answer : Answer

-- nothing is answered
abbrev pub silent_in : Phase → Heard
silent_in phase = record { phase = phase; answer = answer.Nothing }

-- ---- hunting

-- the last 52 bits
abbrev pub last_pair : List ℕ → List ℕ
last_pair bits = drop (length bits - pair_bits) bits

-- they were tried; where they lock, they are the pair
abbrev pub tried_on : List ℕ → Option Lock → Heard
tried_on bits (Some lock) =
    record { phase = locked lock.kind (last_pair bits); answer = answer.Locked }
tried_on bits None = silent_in (hunting bits)

-- 52 bits have come since hunting began
abbrev pub enough : List ℕ → Bool
enough bits = leb pair_bits (length bits)

-- once they have, the last 52 are tried after every bit
unfoldable pub hunted_on : List ℕ → Heard
hunted_on bits =
    cond (enough bits) (tried_on bits (lock_of (block_of (last_pair bits) 0) (block_of (last_pair bits) 1)))
    (silent_in (hunting bits))

-- ---- locked

-- m blocks have come. With the fourth block, the group in hand is answered; where lock is lost, what is in hand is
-- dropped and hunting begins with no bits.
unfoldable pub ended_on : Kind → List ℕ → ℕ → Heard
ended_on kind bits m =
    record {
      phase = cond (loses_at kind bits m) (hunting []) (locked kind bits);
      answer = say_of (completes_at kind m) (loses_at kind bits m) (group_from (judged_in kind bits) (group_start m));
    }

-- each 26 bits are one block
unfoldable pub followed_on : Kind → List ℕ → Heard
followed_on kind bits =
    cond (eqb (length bits % block_bits) 0) (ended_on kind bits (length bits / block_bits)) (silent_in (locked kind bits))

-- ---- what is heard

-- one bit more
abbrev pub heard_with : Phase → ℕ → Heard
heard_with (hunting bits) bit = hunted_on (bits ++ bit ∷ [])
heard_with (locked kind bits) bit = followed_on kind (bits ++ bit ∷ [])

-- a bit that is neither 0 nor 1 is refused and is none of the bits that came
unfoldable pub heard_in : Phase → ℕ → Heard
heard_in phase bit =
    cond (ltb 1 bit) (record { phase = phase; answer = answer.Refused }) (heard_with phase bit)

-- what has come after these bits, the first of them first
unfoldable pub phase_after : Phase → List ℕ → Phase
phase_after phase [] = phase
phase_after phase (bit ∷ bits) = phase_after (heard_in phase bit).phase bits

-- what a receiver started fresh says to a bit after all these bits
unfoldable pub heard : List ℕ → ℕ → Heard
heard bits bit = heard_in (phase_after (hunting []) bits) bit
