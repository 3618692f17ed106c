-- `counts::with_loss` meets its promise: one more.
use Rattle.counts.proofs.with_loss.Goals as goal

pub returns : goal.returns
returns c = rw c.more.ensures
