-- `groups::counts` meets its promise: all four blocks good.
use Rattle.groups.specs.Group.{counts_of}
use Rattle.groups.proofs.counts.Goals as goal

pub returns : goal.returns
unfolding counts_of
returns c = c.is_all_good.ensures
