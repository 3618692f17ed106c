-- `receiver::count_after` meets its promise: by whether 52 bits have come.
use Prim.Native.Nat.{◌+◌}
use mathlib.Core.Logic.{⊎_elim}
use native.Mathlib.Omega.{arith}
use borrow.Author.Tests.{lt-ltb, le-ltb}
use Rattle.bits.proofs.Order.{lt-or-le}
use Rattle.receiver.specs.Strides.{count_after_of}
use Rattle.receiver.specs.Rules.{pair_bits}
use Rattle.receiver.proofs.count_after.Goals as goal

pub returns : goal.returns
unfolding count_after_of
returns c =
    ⊎_elim (λ l. rw (lt-ltb (c.args.count + 1) pair_bits l) (omega arith)) (λ l. rw (le-ltb (c.args.count + 1) pair_bits l) (omega arith))
    (lt-or-le (c.args.count + 1) pair_bits)
