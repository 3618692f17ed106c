-- `groups::bytes::block_at` meets its promise: a group past the end is zeros, else it is read from its first byte on.
use Prim.Native.Nat.{◌*◌, ◌/◌, ◌%◌, ◌-◌}
use mathlib.Core.Path.{sym, ap, ◌∙◌}
use native.Mathlib.Omega.{arith}
use lib.ListN.{length, drop, length-drop}
use lib.Seq.{take_all}
use Rattle.groups.specs.Written.{block_in}
use Rattle.groups.proofs.BlocksInBytes.{block_past, block_in-drop}
use Rattle.groups.proofs.bytes.block_at.Goals as goal

pub returns-then-group-bytes : goal.returns-then-group-bytes
returns-then-group-bytes c = sym (block_past c.args.bytes.now c.args.number (omega arith))

pub returns : goal.returns
returns c =
    let s = c.args.bytes.now in
    let n = c.args.number in
    c.block_from.ensures
    ∙ ap (λ l. block_in l (n % 4)) (take_all (length s - 13 * (n / 4)) (drop (13 * (n / 4)) s)
    (omega (arith, length-drop (13 * (n / 4)) s)))
    ∙ block_in-drop s (n / 4) (n % 4) ∙ ap (block_in s) (omega arith)
