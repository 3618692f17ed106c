-- `telling::held::put_rest` meets its promise: its texts, one behind the other.
use native.Mathlib.Omega.{arith}
use Rattle.std.proofs.lemmas.Grind.{common_steps}
use Rattle.telling.specs.Station.{rest_text}
use Rattle.telling.proofs.held.put_rest.Goals as goal

pub returns : goal.returns
unfolding rest_text
returns c = grind (arith, common_steps)
