-- `blocks::read` meets its promise: the number that the division leaves is the offset of the kind, or of none.
use mathlib.Core.Path.{◌≡◌, sym}
use native.Mathlib.Omega.{arith}
use Rattle.blocks.specs.declared.Kind.TheVariants.{A, B, C, CPrime, D}
use Rattle.blocks.specs.Block.{offset_of}
use Rattle.blocks.proofs.Validity.{each-kind}
use Rattle.blocks.proofs.Reading.{read_settled, read-long, read_left, read_none_left}
use Rattle.blocks.proofs.read.Goals as goal

pub returns-then-bits-ge-LIMIT : goal.returns-then-bits-ge-LIMIT
returns-then-bits-ge-LIMIT c = read_settled c.args.bits _ (sym (read-long c.args.bits (omega arith)))

pub returns-in-252 : goal.returns-in-252
returns-in-252 c =
    read_settled c.args.bits _
    (read_left c.args.bits _ (omega arith) c.left.ensures A c.in-252.is)

pub returns-in-408 : goal.returns-in-408
returns-in-408 c =
    read_settled c.args.bits _
    (read_left c.args.bits _ (omega arith) c.left.ensures B c.in-408.is)

pub returns-in-360 : goal.returns-in-360
returns-in-360 c =
    read_settled c.args.bits _
    (read_left c.args.bits _ (omega arith) c.left.ensures C c.in-360.is)

pub returns-in-848 : goal.returns-in-848
returns-in-848 c =
    read_settled c.args.bits _
    (read_left c.args.bits _ (omega arith) c.left.ensures CPrime
    c.in-848.is)

pub returns-in-436 : goal.returns-in-436
returns-in-436 c =
    read_settled c.args.bits _
    (read_left c.args.bits _ (omega arith) c.left.ensures D c.in-436.is)

pub returns-in_default : goal.returns-in_default
returns-in_default c =
    read_settled c.args.bits _
    (read_none_left c.args.bits _ (omega arith) c.left.ensures
    (each-kind (λ k. c.left.result ≡ offset_of k → ⊥)
    (λ e. omega arith) (λ e. omega arith) (λ e. omega arith) (λ e. omega arith) (λ e. omega arith)))
