-- `marker::seen::flag_of` meets its promise: only a 2A has a flag.
use Rattle.marker.specs.Steps.{held_after}
use Rattle.marker.proofs.StepLaws.{no-flag}
use Rattle.marker.proofs.seen.flag_of.Goals as goal

pub returns-in-Text2A : goal.returns-in-Text2A
unfolding held_after
returns-in-Text2A c = rw c.in-Text2A.is

pub returns-in_default : goal.returns-in_default
returns-in_default c = no-flag c.args.content c.in_default.not-Text2A
