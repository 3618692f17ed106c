-- `marker::content::text_wrong` meets its promise: an address that is wanted is one of sixteen, so that its pairs
-- have a number.
use Rattle.std.proofs.Common.{arith, rules, ap, not}
use Rattle.std.proofs.lemmas.Bool.Decides.{nat_tests}
use Rattle.marker.specs.Tests.{text_wrong}
use Rattle.marker.proofs.TestLaws.{text_address_lt, text_unwanted}
use Rattle.marker.proofs.content.text_wrong.Goals as goal

pub returns-then-not-is_wanted : goal.returns-then-not-is_wanted
returns-then-not-is_wanted c = search (text_unwanted, rules)

pub overflow_mul-pair : goal.overflow_mul-pair
overflow_mul-pair c =
    let asked = rw c.from.ensures at c.is_wanted.ensures in
    omega (arith, text_address_lt _ _ _ asked (ap not c.if-not-is_wanted.false))

pub overflow_add-pair : goal.overflow_add-pair
overflow_add-pair c =
    let asked = rw c.from.ensures at c.is_wanted.ensures in
    omega (arith, text_address_lt _ _ _ asked (ap not c.if-not-is_wanted.false))

pub returns-then-second-text_pair : goal.returns-then-second-text_pair
unfolding text_wrong
returns-then-second-text_pair c = grind (arith, nat_tests)

pub returns-else-second-text_pair : goal.returns-else-second-text_pair
unfolding text_wrong
returns-else-second-text_pair c = grind (arith, nat_tests)
