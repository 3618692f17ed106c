-- The invariant of `receiver::Receiver::advance`, and what falls with each turn.
use Prim.Native.Nat.{◌*◌, ◌-◌, ◌<◌}
use mathlib.Core.Path.{◌≡◌}
use lib.ListN.{length}
use Rattle.receiver.specs.Feeding.{byte_bits, advance_of}
use Rattle.receiver.specs.Strides.{number_of}
use Rattle.receiver.proofs.Receiver.advance.Given as goal

abbrev pub invariant-loop-spot : goal.invariant-loop-spot
invariant-loop-spot l =
    (advance_of l.initial.next l.bytes l.byte l.bit ≡ advance_of l.next l.bytes l.spot.byte l.spot.bit) × (l.spot.bit < byte_bits)

abbrev pub decreases-loop-spot : goal.decreases-loop-spot
decreases-loop-spot l = byte_bits * length l.bytes - number_of l.spot
