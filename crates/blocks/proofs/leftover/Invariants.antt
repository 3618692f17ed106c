-- The invariant of `blocks::leftover`, and what falls with each turn.
use Prim.Native.Nat.{◌≤◌, ◌-◌}
use mathlib.Core.Path.{◌≡◌}
use Rattle.blocks.specs.Divide.{remainder}
use Rattle.blocks.proofs.Rows.{rows_of, upper}
use Rattle.blocks.proofs.leftover.Given as goal

abbrev pub invariant-loop-i : goal.invariant-loop-i
invariant-loop-i l = (l.row-items ≡ rows_of 16) × (l.i ≤ 16) × (l.sum ≡ remainder (upper l.word (16 - l.i)))

abbrev pub decreases-loop-i : goal.decreases-loop-i
decreases-loop-i l = 16 - l.i
