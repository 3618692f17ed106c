-- `telling::group` meets its promise: the line is written on a page of our own, and told.
use Rattle.telling.proofs.group.Goals as goal

pub returns : goal.returns
returns c = rw c.put_group.ensures at c.tell.ensures
