-- `keys::no_key` meets its contract: the tests are those of `no_key`, in its order.
use Rattle.std.proofs.Common.{arith}
use Rattle.std.proofs.lemmas.Bool.Decides.{nat_tests}
use Rattle.keys.specs.Sheet.{no_key}
use Rattle.keys.proofs.no_key.Goals as goal

pub returns-then-size-gt-SHEET_LIMIT : goal.returns-then-size-gt-SHEET_LIMIT
unfolding no_key
returns-then-size-gt-SHEET_LIMIT c = grind (arith, nat_tests)

pub returns-else-size-gt-SHEET_LIMIT : goal.returns-else-size-gt-SHEET_LIMIT
unfolding no_key
returns-else-size-gt-SHEET_LIMIT c = grind (arith, nat_tests)
