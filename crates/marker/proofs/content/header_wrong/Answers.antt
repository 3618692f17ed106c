-- `marker::content::header_wrong` meets its promise: each field is compared with the key's.
use Rattle.std.proofs.Common.{arith}
use Rattle.std.proofs.lemmas.Bool.Decides.{nat_tests}
use Rattle.groups.specs.Content.{header_of}
use Rattle.marker.specs.Tests.{header_wrong}
use Rattle.marker.proofs.content.header_wrong.Goals as goal

pub returns-then-header-pty : goal.returns-then-header-pty
unfolding header_wrong header_of
returns-then-header-pty c = grind (arith, nat_tests)

pub returns-then-header-eq1 : goal.returns-then-header-eq1
unfolding header_wrong header_of
returns-then-header-eq1 c = grind (arith, nat_tests)

pub returns-else-header-eq1 : goal.returns-else-header-eq1
unfolding header_wrong header_of
returns-else-header-eq1 c = grind (arith, nat_tests)
