-- `keys::key_good` meets its contract: the tests are those of `key_good`, in its order.
use Rattle.std.proofs.Common.{arith}
use Rattle.std.proofs.lemmas.Bool.Decides.{nat_tests}
use Rattle.keys.specs.Good.{key_good}
use Rattle.keys.proofs.key_good.Goals as goal

pub returns-then-all_good-2 : goal.returns-then-all_good-2
unfolding key_good
returns-then-all_good-2 c = grind (arith, nat_tests)

pub returns-else-all_good-2 : goal.returns-else-all_good-2
unfolding key_good
returns-else-all_good-2 c = grind (arith, nat_tests)
