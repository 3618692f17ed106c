-- `marker::content::mark_content` meets its promise, by what is said of each exit.
use Rattle.std.proofs.Common.{arith, rules}
use Rattle.marker.proofs.StepLaws.{flag-begin, seen-begin, content_stop, right_content, content_go, held_go}
use Rattle.marker.proofs.StepLaws.{seen_go, content-end}
use Rattle.marker.proofs.content.mark_content.Goals as goal

pub loop-group-init : goal.loop-group-init
loop-group-init c = record {
  right = λ h l. absurd (omega arith);
  flag = search (flag-begin, rules);
  seen = seen-begin _;
}

pub returns-in-Err : goal.returns-in-Err
returns-in-Err c = search (content_stop, rules)

pub loop-group-preserved : goal.loop-group-preserved
loop-group-preserved c = record {
  right = search (content_go, rules);
  flag = search (held_go, rules);
  seen = seen_go _ _ _ _ _ (search (right_content, rules)) c.loop-group.invariant.seen c.seen_after-mask.ensures;
}

pub returns : goal.returns
returns c = search (content-end, rules)
