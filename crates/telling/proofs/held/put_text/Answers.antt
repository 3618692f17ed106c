-- `telling::held::put_text` meets its promise: its texts, one behind the other.
use native.Mathlib.Omega.{arith}
use Rattle.std.proofs.lemmas.Grind.{common_steps}
use Rattle.telling.specs.Station.{text_text}
use Rattle.telling.proofs.held.put_text.Goals as goal

pub returns-clause-text : goal.returns-clause-text
unfolding text_text
returns-clause-text c = grind (arith, common_steps)
