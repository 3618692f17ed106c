-- `receiver::lock_after` meets its promise: by whether 52 bits have come.
use Prim.Native.Nat.{◌+◌}
use Rattle.receiver.specs.Strides.{lock_after_of}
use Rattle.receiver.specs.Rules.{pair_bits}
use borrow.Author.Tests.{lt-ltb, le-ltb}
use native.Mathlib.Omega.{arith}
use Rattle.receiver.proofs.lock_after.Goals as goal

pub returns-then-count : goal.returns-then-count
unfolding lock_after_of
returns-then-count c = rw (le-ltb (c.args.count + 1) pair_bits (omega arith), c.try_lock.ensures)

pub returns : goal.returns
unfolding lock_after_of
returns c = rw (lt-ltb (c.args.count + 1) pair_bits (omega arith))
