-- `marker::checks::first_bad_block` meets its promise: what `find` says of the range is what `first` says.
use Rattle.std.proofs.Common.{◌≡◌, rules, true, false}
use Rattle.std.proofs.lemmas.Iterator.{first_from_Range}
use borrow.Author.Tests.{tests}
use Rattle.marker.specs.Submission.{blocks_in}
use Rattle.marker.specs.Tests.{block_wrong}
use Rattle.marker.specs.Mark.{first_bad_block}
use Rattle.marker.proofs.FirstLaws.{first_found}
use Rattle.marker.proofs.checks.first_bad_block.Goals as goal

pub returns : goal.returns
unfolding first_bad_block
returns c =
    let s = c.args.submission.now in
    first_found (block_wrong s) (blocks_in s) c.find.result
    (first_from_Range _ _ _ _ (λ j. block_wrong s j ≡ true) (λ j. block_wrong s j ≡ false) c.find.ensures.ran
    (λ x q k. search (rules, tests)) (λ x q k. search (rules, tests)))
