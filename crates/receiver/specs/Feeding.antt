-- Feeding bytes: their bits, eight to a byte, first bit highest, one after the other up to the next answer.
use Rattle.std.specs.Prelude.{ℕ, zero, suc, ◌+◌, ◌*◌, ◌-◌, ◌/◌, ◌%◌, List, Bool, true, false, cond, ◌||◌, leb, length}
use Rattle.bits.specs.Bytes.{bit_at}
use Rattle.receiver.specs.declared.Answer.{Answer}
use Rattle.receiver.specs.declared.Answer.TheVariants.{Nothing, Locked, Group, Lost, GroupAndLost, Refused}
use Rattle.receiver.specs.declared.Receiver.{Receiver}
use Rattle.receiver.specs.declared.Step.{Step}
use Rattle.receiver.specs.declared.Advanced.{Advanced}
use Rattle.receiver.specs.Machine.{silent_of, step_of}

-- eight bits to a byte
abbrev pub byte_bits : ℕ
byte_bits = 8

-- the answer nothing
abbrev pub is_nothing_of : Answer → Bool
is_nothing_of Nothing = true
is_nothing_of Locked = false
is_nothing_of (Group group) = false
is_nothing_of Lost = false
is_nothing_of (GroupAndLost group) = false
is_nothing_of Refused = false

-- a step after which feeding stops, and the place of the next bit: its byte, and which bit of that byte
abbrev pub stopped_of : Step → ℕ → ℕ → Advanced
stopped_of step byte bit =
    record { next = step.next; answer = step.answer; byte = byte; bit = bit }

-- the n bits from bit i on: feeding stops after the next answer other than nothing, or at the end
unfoldable pub feed_of : Receiver → List ℕ → ℕ → ℕ → Advanced
feed_of r s i zero = stopped_of (silent_of r) (i / byte_bits) (i % byte_bits)
feed_of r s i (suc n) =
    cond (is_nothing_of (step_of r (bit_at s i)).answer) (feed_of (step_of r (bit_at s i)).next s (i + 1) n)
    (stopped_of (step_of r (bit_at s i)) ((i + 1) / byte_bits) ((i + 1) % byte_bits))

-- the bits from a place on; where there is no such bit nothing is fed, and the place comes back
unfoldable pub advance_of : Receiver → List ℕ → ℕ → ℕ → Advanced
advance_of r s byte bit =
    cond (leb byte_bits bit || leb (length s) byte) (stopped_of (silent_of r) byte bit)
    (feed_of r s (byte_bits * byte + bit) (byte_bits * length s - (byte_bits * byte + bit)))
