-- `answers::whole_line` meets its promise: a buffer with that room is never too short.
use native.Mathlib.Omega.{arith}
use Rattle.answers.specs.Line.{line_room}
use Rattle.letters.proofs.Handing.{within_wrote}
use Rattle.answers.proofs.whole_line.Goals as goal

pub returns : goal.returns
returns c =
    rw c.written.ensures (within_wrote line_room c.mark_line.ensures (omega arith))
