-- `keys::text_pair` meets its contract, by that of `field_pair`.
use Rattle.keys.specs.Fields.{text_pair_of}
use Rattle.keys.proofs.text_pair.Goals as goal

pub returns : goal.returns
unfolding text_pair_of
returns c = c.field_pair.ensures
