-- `marker::content::take_group` meets its promise: the four words are those of the group; the header first, then the
-- content.
use Rattle.marker.proofs.StepLaws.{step_header, step_content, step_right}
use borrow.Author.Rules.{rules}
use Rattle.marker.proofs.content.take_group.Goals as goal

pub returns-in_default : goal.returns-in_default
returns-in_default c = search (step_header, rules)

pub returns-then-content_wrong : goal.returns-then-content_wrong
returns-then-content_wrong c = search (step_content, rules)

pub returns : goal.returns
returns c = search (step_right, rules)
