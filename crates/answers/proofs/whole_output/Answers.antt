-- `answers::whole_output` meets its promise: a buffer with that room is never too short.
use native.Mathlib.Omega.{arith}
use Rattle.answers.specs.Encoded.{output_room}
use Rattle.letters.proofs.Handing.{within_wrote}
use Rattle.answers.proofs.whole_output.Goals as goal

pub returns : goal.returns
returns c =
    rw c.written.ensures (within_wrote output_room c.encode_output.ensures (omega arith))
