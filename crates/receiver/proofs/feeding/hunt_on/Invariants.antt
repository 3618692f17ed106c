-- The invariant of `receiver::feeding::hunt_on`, and what falls with each turn.
use Rattle.receiver.specs.Feeding.{byte_bits, advance_of}
use Rattle.receiver.specs.Strides.{number_of}
use Rattle.receiver.specs.Machine.{hunting_of}
use lib.ListN.{length}
use Prim.Native.Nat.{◌*◌, ◌-◌, ◌<◌, ◌≤◌}
use mathlib.Core.Path.{◌≡◌}
use Rattle.receiver.proofs.feeding.hunt_on.Given as goal

abbrev pub invariant-loop-spot : goal.invariant-loop-spot
invariant-loop-spot l =
    (advance_of (hunting_of l.window l.count) l.bytes l.fn.from.byte l.fn.from.bit
    ≡ advance_of (hunting_of l.last l.many) l.bytes l.spot.byte l.spot.bit)
    × (l.spot.bit < byte_bits) × (number_of l.fn.from ≤ number_of l.spot)

abbrev pub decreases-loop-spot : goal.decreases-loop-spot
decreases-loop-spot l =
    byte_bits * length l.bytes - number_of l.spot
