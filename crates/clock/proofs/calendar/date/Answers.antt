-- `clock::calendar::date` meets its contract: its steps are those of `march-date`.
use mathlib.Core.Path.{refl}
use Rattle.clock.proofs.MarchYears.{march-date}
use Rattle.clock.proofs.calendar.date.Goals as goal

pub returns : goal.returns
returns c = march-date c.args.local c.requires _ _ _ _ refl refl refl refl
