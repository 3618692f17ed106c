-- `saving::save` meets its promise: by whether there is room.
use native.Mathlib.Omega.{arith}
use lib.ListN.{length}
use lib.Seq.{length-take-le}
use borrow.Author.Tests.{lt-ltb, le-ltb}
use Rattle.saving.specs.Saving.{state_length, save_of, buffer_of}
use Rattle.saving.proofs.Saves.{state-length}
use Rattle.saving.proofs.save.Goals as goal

pub returns-then-out-lt-STATE_LENGTH : goal.returns-then-out-lt-STATE_LENGTH
unfolding save_of buffer_of
returns-then-out-lt-STATE_LENGTH c = let n = length c.args.out.now in (
  rw (lt-ltb n state_length (omega arith)),
  rw (lt-ltb n state_length (omega arith)),
  rw (lt-ltb n state_length (omega arith)),
)

pub copy_from_slice-requires : goal.copy_from_slice-requires
copy_from_slice-requires c =
    rw (c.state_bytes.ensures, state-length c.args.receiver) (length-take-le state_length c.args.out.now (omega arith))

pub returns : goal.returns
unfolding save_of buffer_of
returns c = let n = length c.args.out.now in (
  rw (le-ltb n state_length (omega arith)),
  rw (le-ltb n state_length (omega arith)),
  rw (le-ltb n state_length (omega arith), c.copy_from_slice.ensures.after, c.state_bytes.ensures),
)
