-- `keys::pair_at` meets its contract: what `from_be_bytes` says of two bytes is the word.
use Rattle.std.proofs.Common.{arith}
use Rattle.keys.specs.Fields.{pair_of}
use Rattle.keys.proofs.pair_at.Goals as goal

pub returns : goal.returns
unfolding pair_of
returns c = omega (arith, c.from_be_bytes.ensures)
