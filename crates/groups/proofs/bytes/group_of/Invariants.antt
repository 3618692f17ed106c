-- The invariant of `groups::bytes::group_of`: before a place, the blocks at the places before it are in the group.
use mathlib.Core.Path.{◌≡◌}
use Rattle.groups.proofs.BlocksInBytes.{group_before}
use Rattle.groups.proofs.bytes.group_of.Given as goal

abbrev pub invariant-loop-place : goal.invariant-loop-place
invariant-loop-place l = l.group ≡ group_before l.bytes l.place
