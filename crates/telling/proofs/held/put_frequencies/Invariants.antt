-- The invariant of `telling::held::put_frequencies`: before turn i the first i frequencies are written.
use Prim.Native.Nat.{◌+◌, ◌*◌, ◌≤◌}
use mathlib.Core.Path.{◌≡◌}
use mathlib.Core.List.{◌++◌}
use lib.ListN.{length}
use Rattle.telling.specs.Station.{frequencies_to}
use Rattle.telling.proofs.held.put_frequencies.Given as goal

abbrev pub invariant-loop-i : goal.invariant-loop-i
invariant-loop-i l =
    (l.page ≡ l.initial.page ++ frequencies_to l.list l.i) × (length l.page ≤ length l.initial.page + 24 * l.i)
