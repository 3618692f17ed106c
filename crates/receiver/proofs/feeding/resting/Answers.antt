-- `receiver::feeding::resting` meets its promise: the two calls.
use Rattle.receiver.proofs.feeding.resting.Goals as goal

pub returns : goal.returns
returns c = rw c.stopped.ensures
