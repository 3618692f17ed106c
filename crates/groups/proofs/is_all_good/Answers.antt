-- `groups::is_all_good` meets its promise: the four marks of the mask.
use Rattle.groups.specs.Group.{is_all_good_of, good_of}
use mathlib.Core.Path.{refl}
use Rattle.groups.proofs.is_all_good.Goals as goal

pub returns : goal.returns
unfolding is_all_good_of good_of
returns c = refl
