-- `blocks::left` meets its promise: the word and the lowest ten bits are divided apart.
use Prim.Native.Nat.{ℕ, ◌%◌, ◌/◌}
use mathlib.Core.Path.{◌≡◌}
use native.Mathlib.Omega.{arith}
use Rattle.blocks.specs.Block.{limit}
use Rattle.blocks.proofs.Rows.{remainder-word}
use Rattle.blocks.proofs.left.Goals as goal

pub returns : goal.returns
returns c =
    let bits : ℕ = c.args.bits in
    let high : bits / 1024 % 65536 ≡ bits % limit / 1024 = omega arith in
    let low : bits % 1024 ≡ bits % limit % 1024 = omega arith in
    rw (c.leftover.ensures, high, low) (remainder-word (bits % limit))
