-- The invariant of `record_of`: as many groups as came were taken in, and the rest is what comes after them.
use Prim.Native.Nat.{◌*◌, ◌≤◌}
use mathlib.Core.Path.{◌≡◌}
use lib.ListN.{length, drop}
use Rattle.capi_states.specs.Stations.{record_after}
use Rattle.capi_states.proofs.stations.record_of.Given as goal

abbrev pub invariant-loop-group : goal.invariant-loop-group
invariant-loop-group l =
    (l.station ≡ record_after l.bytes (length l.yielded))
    × (l.group-iterator.rest.now ≡ drop (9 * length l.yielded) l.bytes)
    × (l.group-iterator.size ≡ 9)
    × (9 * length l.yielded ≤ length l.bytes)
