-- `receiver::next_after` meets its promise: by whether lock is lost.
use Rattle.receiver.proofs.next_after.Goals as goal

pub returns-then-run : goal.returns-then-run
returns-then-run c = rw (c.if-run.true, c.hunting.ensures)

pub returns : goal.returns
returns c = rw (c.if-run.false, c.begin.ensures)
