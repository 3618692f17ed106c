-- `letters::tell` meets its promise: by whether there is room.
use native.Mathlib.Omega.{arith}
use Rattle.letters.proofs.Handing.{tells_short, tells_written}
use Rattle.letters.proofs.tell.Goals as goal

pub returns-then-out-length : goal.returns-then-out-length
returns-then-out-length c = tells_short c.args.text.now c.args.out.now (omega arith)

pub returns : goal.returns
returns c = rw c.copy_from_slice.ensures.after (tells_written c.args.text.now c.args.out.now (omega arith))
