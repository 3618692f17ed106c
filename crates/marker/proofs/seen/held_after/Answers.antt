-- `marker::seen::held_after` meets its promise: a flag that is held stays.
use Rattle.std.proofs.Common.{◌∙◌}
use Rattle.marker.proofs.StepLaws.{held_or}
use Rattle.marker.proofs.seen.held_after.Goals as goal

pub returns : goal.returns
returns c = rw c.flag_of.ensures at c.or.ensures ∙ held_or c.args.held c.args.content
