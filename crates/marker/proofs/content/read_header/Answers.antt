-- `marker::content::read_header` meets its promise: the header first, then what the group carries.
use Rattle.marker.proofs.StepLaws.{header_stop, header_right}
use borrow.Author.Rules.{rules}
use Rattle.marker.proofs.content.read_header.Goals as goal

pub returns-then-header_wrong : goal.returns-then-header_wrong
returns-then-header_wrong c = search (header_stop, rules)

pub returns : goal.returns
returns c = search (header_right, rules)
