-- `marker::mark_submission` meets its promise: the length, then the blocks, then the content.
use Rattle.std.proofs.Common.{rules}
use Rattle.marker.proofs.StepLaws.{submission_length, submission_block, submission_content}
use Rattle.marker.proofs.mark_submission.Goals as goal

pub returns-then-length_wrong : goal.returns-then-length_wrong
returns-then-length_wrong c = search (submission_length, rules)

pub returns-in-Some : goal.returns-in-Some
returns-in-Some c = search (submission_block, rules)

pub returns-in-None : goal.returns-in-None
returns-in-None c = search (submission_content, rules)
