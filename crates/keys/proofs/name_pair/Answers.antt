-- `keys::name_pair` meets its contract, by that of `field_pair`.
use Rattle.keys.specs.Fields.{name_pair_of}
use Rattle.keys.proofs.name_pair.Goals as goal

pub returns : goal.returns
unfolding name_pair_of
returns c = c.field_pair.ensures
