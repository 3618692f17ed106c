-- `counts::with_group` meets its promise: one group more, and one bad more unless all blocks were good.
use Rattle.counts.proofs.with_group.Goals as goal

pub returns : goal.returns
returns c = rw (c.more.ensures, c.bad_with.ensures)
