-- `telling::held::put_station` meets its promise: its texts, one behind the other.
use native.Mathlib.Omega.{arith}
use Rattle.std.proofs.lemmas.Grind.{common_steps}
use Rattle.telling.specs.Station.{station_text}
use Rattle.telling.proofs.held.put_station.Goals as goal

pub returns : goal.returns
unfolding station_text
returns c = grind (arith, common_steps)
