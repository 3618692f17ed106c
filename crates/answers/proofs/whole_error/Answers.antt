-- `answers::whole_error` meets its promise: a buffer with that room is never too short.
use native.Mathlib.Omega.{arith}
use Rattle.answers.specs.Encoded.{error_room}
use Rattle.letters.proofs.Handing.{within_wrote}
use Rattle.answers.proofs.whole_error.Goals as goal

pub returns : goal.returns
returns c =
    rw c.written.ensures (within_wrote error_room c.encode_error.ensures (omega arith))
