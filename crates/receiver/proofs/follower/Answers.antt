-- `receiver::follower` meets its promise: kind by kind.
use Rattle.receiver.proofs.follower.Goals as goal

pub returns-in-B : goal.returns-in-B
returns-in-B c = rw (c.in-B.is, c.third_kind.ensures)
