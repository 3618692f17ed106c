-- `recording::record_lines` meets its promise: a buffer with that room is never too short.
use Rattle.std.proofs.Common.{arith}
use Rattle.telling.specs.Rooms.{station_room}
use Rattle.letters.proofs.Handing.{within_wrote}
use Rattle.recording.proofs.record_lines.Goals as goal

pub returns : goal.returns
returns c = rw c.written.ensures (within_wrote station_room c.record_lines.ensures (omega arith))
