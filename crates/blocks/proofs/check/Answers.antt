-- `blocks::check` meets its promise: the remainder, and the offset added.
use lib.Bits.{bit_xor}
use mathlib.Core.Path.{ap₂}
use Rattle.blocks.specs.Block.{check_of}
use Rattle.blocks.proofs.check.Goals as goal

pub returns : goal.returns
unfolding check_of
returns c = ap₂ bit_xor c.leftover.ensures c.offset.ensures
