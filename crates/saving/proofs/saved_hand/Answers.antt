-- `saving::saved_hand` meets its promise: after four blocks the hand has them all.
use mathlib.Core.Path.{◌≡◌, ◌∙◌}
use native.Mathlib.Omega.{arith}
use native.Mathlib.Numerals.{add-one}
use Rattle.saving.proofs.Saves.{hand_before}
use Rattle.saving.proofs.saved_hand.Goals as goal

pub loop-i-init : goal.loop-i-init
unfolding hand_before
loop-i-init c = c.empty-hand.ensures

pub loop-i-preserved : goal.loop-i-preserved
unfolding hand_before
loop-i-preserved c =
    c.with_block-hand.ensures ∙ rw (c.saved_block.ensures, c.loop-i.invariant, add-one c.loop-i.i)

pub returns : goal.returns
unfolding hand_before
returns c = let e : c.loop-i.i ≡ 4 = omega arith in c.loop-i.invariant ∙ rw e
