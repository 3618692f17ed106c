-- `groups::bytes::group_of` meets its promise: filled block by block.
use mathlib.Core.Path.{◌≡◌, ◌∙◌}
use native.Mathlib.Omega.{arith}
use native.Mathlib.Numerals.{add-one}
use Rattle.groups.specs.Written.{group_in}
use Rattle.groups.proofs.BlocksInBytes.{group_before}
use Rattle.groups.proofs.bytes.group_of.Goals as goal

pub loop-place-init : goal.loop-place-init
unfolding group_before
loop-place-init c = c.empty-group.ensures

pub loop-place-preserved : goal.loop-place-preserved
unfolding group_before
loop-place-preserved c =
    c.with_block-group.ensures ∙ rw (c.judged_in.ensures, c.loop-place.invariant, add-one c.loop-place.place)

pub returns : goal.returns
unfolding group_before group_in
returns c = let e : c.loop-place.place ≡ 4 = omega arith in c.loop-place.invariant ∙ rw e
