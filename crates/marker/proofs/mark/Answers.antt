-- `marker::mark` meets its promise: each answer to the question for a key has its line of the table.
use Rattle.std.proofs.Common.{Err, ap, ◌∙◌}
use Rattle.marker.proofs.MarkLaws.{mark_no_key, mark_bad_key, mark_good_key}
use Rattle.marker.proofs.mark.Goals as goal

pub returns-in-Err-NoKey : goal.returns-in-Err-NoKey
returns-in-Err-NoKey c =
    mark_no_key _ _ _ _ c.key_of.ensures.0 (c.in-Err-NoKey.is ∙ ap Err c.in-Err-NoKey.field-0-is)

pub returns-in-Err-BadKey : goal.returns-in-Err-BadKey
returns-in-Err-BadKey c =
    mark_bad_key _ _ _ _ c.key_of.ensures.0 (c.in-Err-BadKey.is ∙ ap Err c.in-Err-BadKey.field-0-is)

pub returns-in-Ok : goal.returns-in-Ok
returns-in-Ok c = mark_good_key _ _ _ _ c.key_of.ensures.0 _ c.in-Ok.is _ c.mark_submission.ensures
