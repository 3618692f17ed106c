-- `blocks::judge` meets its promise: the block is good exactly if the division leaves the kind's offset.
use mathlib.Core.Path.{sym, ◌∙◌}
use native.Mathlib.Omega.{arith}
use Rattle.blocks.proofs.Reading.{judge_settled, judge-long, judge_left, judge_none_left}
use Rattle.blocks.proofs.judge.Goals as goal

pub returns-then-bits-ge-LIMIT : goal.returns-then-bits-ge-LIMIT
returns-then-bits-ge-LIMIT c = judge_settled _ _ _ (sym (judge-long c.args.bits c.args.kind (omega arith)))

pub returns-then-left-offset : goal.returns-then-left-offset
returns-then-left-offset c =
    judge_settled _ _ _
    (judge_none_left c.args.bits _ (omega arith)
    c.left.ensures c.args.kind
    (λ e. c.if-left-offset.true (e ∙ sym c.offset.ensures)))

pub returns : goal.returns
returns c =
    judge_settled _ _ _
    (judge_left c.args.bits _ (omega arith) c.left.ensures
    c.args.kind (c.if-left-offset.false ∙ c.offset.ensures))
