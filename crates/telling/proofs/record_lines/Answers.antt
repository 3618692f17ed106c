-- `telling::record_lines` meets its promise: the lines are written on a page of our own, and told.
use Rattle.telling.proofs.record_lines.Goals as goal

pub returns : goal.returns
returns c = rw c.put_station.ensures at c.tell.ensures
