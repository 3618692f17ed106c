-- `keys::byte_good` meets its contract: each arm of the branch is a case of `byte_good`.
-- Assumes nothing.
use mathlib.Core.Path.{refl}
use Rattle.keys.specs.Good.{byte_good}
use Rattle.keys.proofs.byte_good.Goals as goal

pub returns-then-shown : goal.returns-then-shown
unfolding byte_good
returns-then-shown c = rw c.if-shown.true refl

pub returns-else-shown : goal.returns-else-shown
unfolding byte_good
returns-else-shown c = rw c.if-shown.false refl
