-- `answers::mark_line` meets its promise: the line is written into a buffer of our own, and handed over.
use mathlib.Core.Path.{ap}
use native.Mathlib.Omega.{arith}
use Rattle.answers.specs.Line.{line_of, mark_line, line_room}
use Rattle.letters.proofs.Handing.{count_front, tells_within}
use Rattle.answers.proofs.mark_line.Goals as goal

pub slice_bounds-tell-end : goal.slice_bounds-tell-end
slice_bounds-tell-end c = count_front _ _ c.put_line-length.ensures.0

pub returns : goal.returns
unfolding mark_line
returns c =
    tells_within line_room c.put_line-length.ensures.0 (ap line_of c.marked.ensures)
    (omega (arith, c.put_line-length.ensures.1)) c.tell.ensures
