-- The invariant of `list_of`: as many words as pairs that came were taken, and the rest is what comes after them.
use Prim.Native.Nat.{◌*◌, ◌≤◌}
use mathlib.Core.Path.{◌≡◌}
use lib.ListN.{length, drop}
use Rattle.capi.specs.Frequencies.{list_after}
use Rattle.capi.proofs.af.list_of.Given as goal

abbrev pub invariant-loop-pair : goal.invariant-loop-pair
invariant-loop-pair l =
    (l.list ≡ list_after l.bytes (length l.yielded))
    × (l.pair-iterator.rest.now ≡ drop (2 * length l.yielded) l.bytes)
    × (l.pair-iterator.size ≡ 2)
    × (2 * length l.yielded ≤ length l.bytes)
