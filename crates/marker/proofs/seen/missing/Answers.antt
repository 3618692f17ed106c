-- `marker::seen::missing` meets its promise: the trailing zeros of the complement are the lowest address that never
-- came.
use Rattle.marker.proofs.MaskLaws.{missing_lowest, missing_none}
use borrow.Author.Rules.{rules}
use Rattle.marker.proofs.seen.missing.Goals as goal

pub returns-then-lowest-from : goal.returns-then-lowest-from
returns-then-lowest-from c = search (missing_none, rules)

pub returns : goal.returns
returns c = search (missing_lowest, rules)
