-- `counts::with_lock` meets its promise: one more.
use Rattle.counts.proofs.with_lock.Goals as goal

pub returns : goal.returns
returns c = rw c.more.ensures
