-- The invariant of `telling::held::put_marks`: before each turn the marks so far are written.
use Prim.Native.Nat.{◌+◌, ◌*◌, ◌≤◌}
use mathlib.Core.Path.{◌≡◌}
use mathlib.Core.List.{◌++◌}
use lib.ListN.{length, take}
use Rattle.letters.specs.Letters.{joined}
use Rattle.telling.specs.Station.{mark_text}
use Rattle.telling.proofs.held.put_marks.Given as goal

abbrev pub invariant-loop-pair : goal.invariant-loop-pair
invariant-loop-pair l =
    (l.page ≡ l.initial.page ++ joined mark_text (take l.pair-index l.seen))
    × (length l.page ≤ length l.initial.page + 4 * l.pair-index)
