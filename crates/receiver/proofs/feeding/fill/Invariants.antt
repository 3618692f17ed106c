-- The invariant of `receiver::feeding::fill`, and what falls with each turn.
use Rattle.receiver.specs.Feeding.{byte_bits, advance_of}
use Rattle.receiver.specs.Strides.{number_of}
use Rattle.receiver.specs.Machine.{is_hunting_of, inside_of}
use Rattle.receiver.specs.declared.Receiver.{Receiver}
use Rattle.blocks.specs.Damage.{block_bits}
use Prim.Native.Nat.{◌-◌, ◌<◌, ◌≤◌}
use mathlib.Core.Bool.{false}
use mathlib.Core.Path.{◌≡◌}
use Rattle.receiver.proofs.feeding.fill.Given as goal

abbrev pub invariant-loop-many : goal.invariant-loop-many
invariant-loop-many l =
    ((r : Receiver) → is_hunting_of r.place ≡ false
    → advance_of (inside_of r l.window l.count) l.bytes l.fn.from.byte l.fn.from.bit
    ≡ advance_of (inside_of r l.last l.many) l.bytes l.spot.byte l.spot.bit)
    × (l.spot.bit < byte_bits) × (number_of l.fn.from ≤ number_of l.spot)

abbrev pub decreases-loop-many : goal.decreases-loop-many
decreases-loop-many l = block_bits - l.many
