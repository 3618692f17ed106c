-- `receiver::follow` meets its promise: by whether the block ends with this bit.
use Prim.Native.Nat.{◌+◌}
use Rattle.receiver.specs.Machine.{follow_of}
use Rattle.blocks.specs.Damage.{block_bits}
use borrow.Author.Tests.{lt-ltb, le-ltb}
use native.Mathlib.Omega.{arith}
use Rattle.receiver.proofs.follow.Goals as goal

pub returns-then-receiver : goal.returns-then-receiver
unfolding follow_of
returns-then-receiver c = rw (
  lt-ltb (c.args.receiver.count + 1) block_bits (omega arith),
  c.shifted-moved.ensures,
)

pub returns : goal.returns
unfolding follow_of
returns c = rw (
  le-ltb (c.args.receiver.count + 1) block_bits (omega arith),
  c.end.ensures,
  c.judge_at.ensures,
  c.shifted-moved.ensures,
)
