-- `recording::count_lines` meets its promise: a buffer with that room is never too short.
use Rattle.std.proofs.Common.{arith}
use Rattle.telling.specs.Rooms.{line_room}
use Rattle.letters.proofs.Handing.{within_wrote}
use Rattle.recording.proofs.count_lines.Goals as goal

pub returns : goal.returns
returns c = rw c.written.ensures (within_wrote line_room c.count_lines.ensures (omega arith))
