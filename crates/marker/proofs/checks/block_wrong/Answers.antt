-- `marker::checks::block_wrong` meets its promise: the block is judged as the kind of its place.
use mathlib.Core.Path.{◌∙◌}
use Rattle.marker.proofs.TestLaws.{judged_wrong}
use Rattle.marker.proofs.checks.block_wrong.Goals as goal

pub returns : goal.returns
returns c =
    c.is_err.ensures.value
    ∙ judged_wrong c.args.submission.now c.args.block _ _ _ _ c.word_in-word2.ensures c.expected-kind.ensures
    c.block_in.ensures c.judge.ensures.0
