-- `receiver::try_lock` meets its promise: by what the older block is found to be, and how the newer is judged.
use mathlib.Core.Path.{sym, ap, ◌∙◌}
use Rattle.blocks.specs.Block.{judge_of}
use Rattle.receiver.specs.Rules.{joined_of, lock_of}
use Rattle.receiver.proofs.try_lock.Goals as goal

pub returns-in_default : goal.returns-in_default
unfolding lock_of
returns-in_default c = rw (← c.read.ensures.0, c.in_default.is) (cc)

pub returns-in_default-2 : goal.returns-in_default-2
unfolding lock_of
returns-in_default-2 c = rw (← c.read.ensures.0, c.in_default.is)

pub returns-in_default-judge : goal.returns-in_default-judge
unfolding lock_of
returns-in_default-judge c =
    let b = c.in-Ok-Some.block in
    let judged = ap (judge_of c.args.newer) (sym c.follower.ensures) ∙ sym c.judge.ensures.0 ∙ c.in_default-judge.is in
    rw (← c.read.ensures.0, c.in-Ok-Some.is, c.in-Ok-Some.field-0-is) (sym (ap (joined_of b.kind b.word) judged))

pub returns : goal.returns
unfolding lock_of
returns c =
    let b = c.in-Ok-Some.block in
    let judged = ap (judge_of c.args.newer) (sym c.follower.ensures) ∙ sym c.judge.ensures.0 ∙ c.in-Ok.is in
    rw (← c.read.ensures.0, c.in-Ok-Some.is, c.in-Ok-Some.field-0-is) (sym (ap (joined_of b.kind b.word) judged))
