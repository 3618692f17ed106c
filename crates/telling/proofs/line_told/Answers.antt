-- `telling::line_told` meets its promise: the line is written on a page of our own, and told.
use Rattle.telling.proofs.line_told.Goals as goal

pub returns : goal.returns
returns c = rw (c.put_line.ensures.text, c.new-page.ensures) at c.tell.ensures
