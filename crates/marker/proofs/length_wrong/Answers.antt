-- `marker::length_wrong` meets its promise: the tests are the definition's.
use Rattle.std.proofs.Common.{arith}
use Rattle.std.proofs.lemmas.Bool.Decides.{nat_tests}
use Rattle.marker.specs.Tests.{length_wrong}
use Rattle.marker.proofs.length_wrong.Goals as goal

pub returns-then-size-ne0 : goal.returns-then-size-ne0
unfolding length_wrong
returns-then-size-ne0 c = grind (arith, nat_tests)

pub returns-else-size-ne0 : goal.returns-else-size-ne0
unfolding length_wrong
returns-else-size-ne0 c = grind (arith, nat_tests)
