-- `keys::tp` meets its contract: the test is the definition's.
-- Assumes nothing.
use mathlib.Core.Path.{refl}
use Rattle.keys.specs.Fields.{tp_of}
use Rattle.keys.proofs.tp.Goals as goal

pub returns : goal.returns
unfolding tp_of
returns c = refl
