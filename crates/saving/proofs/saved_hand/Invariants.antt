-- The invariant of `saving::saved_hand`: before block i the blocks before it are in hand.
use mathlib.Core.Path.{◌≡◌}
use Rattle.saving.proofs.Saves.{hand_before}
use Rattle.saving.proofs.saved_hand.Given as goal

abbrev pub invariant-loop-i : goal.invariant-loop-i
invariant-loop-i l = l.hand ≡ hand_before l.bytes l.i
