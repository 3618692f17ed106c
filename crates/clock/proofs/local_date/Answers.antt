-- `clock::local_date` meets its contract: the tests of the two days say which answer is given.
use mathlib.Core.Path.{◌≡◌}
use native.Mathlib.Omega.{arith}
use Rattle.std.proofs.lemmas.Grind.{common_steps}
use Rattle.clock.specs.Local.{date_refused, local_shown, local_time_of, local_date_of}
use Rattle.clock.proofs.Ranges.{in_days_true}
use Rattle.clock.proofs.local_date.Goals as goal

pub returns-in_err-clock : goal.returns-in_err-clock
unfolding local_date_of date_refused
returns-in_err-clock c = grind (arith, common_steps)

pub returns-then-not-in_days : goal.returns-then-not-in_days
unfolding local_date_of date_refused
returns-then-not-in_days c = grind (arith, common_steps)

pub local_time-local-requires : goal.local_time-local-requires
local_time-local-requires c = grind (arith, in_days_true)

pub returns-then-not-in_days-2 : goal.returns-then-not-in_days-2
unfolding local_date_of date_refused
returns-then-not-in_days-2 c = grind (arith, common_steps)

pub date-date-requires : goal.date-date-requires
date-date-requires c = grind (arith, in_days_true)

pub date_time-requires : goal.date_time-requires
unfolding local_time_of
date_time-requires c = grind (arith, common_steps)

-- What is shown is the date and the weekday of the local day, and the local time.
pub returns : goal.returns
unfolding local_date_of date_refused
returns c =
    let shown : c.date_time.result ≡ local_shown (local_time_of c.in_ok-clock.clock) = cc in
    grind (arith, common_steps)
