-- `keys::pi` meets its contract, by that of `pair_at`.
-- Assumes nothing.
use Rattle.keys.specs.Fields.{pi_of}
use Rattle.keys.proofs.pi.Goals as goal

pub returns : goal.returns
unfolding pi_of
returns c = c.pair_at.ensures
