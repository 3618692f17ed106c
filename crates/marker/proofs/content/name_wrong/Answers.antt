-- `marker::content::name_wrong` meets its promise: the pair is compared with the key's.
use Rattle.marker.specs.Tests.{name_wrong}
use Rattle.marker.proofs.content.name_wrong.Goals as goal

pub returns : goal.returns
unfolding name_wrong
returns c = rw c.name_pair.ensures
