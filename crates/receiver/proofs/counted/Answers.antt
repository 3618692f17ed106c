-- `receiver::counted` meets its promise: by whether the run ends with this block.
use Prim.Native.Nat.{◌+◌}
use Rattle.receiver.specs.Machine.{counted_of}
use Rattle.receiver.specs.Rules.{run_blocks}
use borrow.Author.Tests.{lt-ltb, le-ltb}
use native.Mathlib.Omega.{arith}
use Rattle.receiver.proofs.counted.Goals as goal

pub returns-then-run : goal.returns-then-run
unfolding counted_of
returns-then-run c = rw (lt-ltb (c.args.run + 1) run_blocks (omega arith), c.bad_with-bads.ensures)

pub returns-else-run : goal.returns-else-run
unfolding counted_of
returns-else-run c = rw (le-ltb (c.args.run + 1) run_blocks (omega arith), c.bad_with-bads.ensures)
