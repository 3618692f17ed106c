-- `blocks::write` meets its promise: the word, then the check.
use Rattle.blocks.specs.Block.{write_of}
use Rattle.blocks.proofs.write.Goals as goal

pub returns : goal.returns
unfolding write_of
returns c = rw (c.from.ensures, c.from-2.ensures, c.check.ensures)
