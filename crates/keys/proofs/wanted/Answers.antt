-- `keys::wanted` meets its contract: the test is the definition's.
-- Assumes nothing.
use mathlib.Core.Path.{refl}
use Rattle.keys.specs.Fields.{wanted_of}
use Rattle.keys.proofs.wanted.Goals as goal

pub returns : goal.returns
unfolding wanted_of
returns c = refl
