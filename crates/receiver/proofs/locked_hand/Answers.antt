-- `receiver::locked_hand` meets its promise: by the kind of the older block.
use Rattle.receiver.proofs.locked_hand.Goals as goal

pub returns-in-A : goal.returns-in-A
returns-in-A c = rw (
  c.in-A.is,
  c.with_block.ensures,
  c.with_block-one.ensures,
  c.empty-empty.ensures,
)

pub returns-in-D : goal.returns-in-D
returns-in-D c = rw (c.in-D.is, c.with_block-in-D.ensures, c.empty-empty.ensures)
