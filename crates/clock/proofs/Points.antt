-- The clock of the rules' P lines and its local date, and the first and last day.
use Prim.Native.Nat.{ℕ, ◌+◌}
use mathlib.Core.Path.{◌≡◌, refl, sym, ◌∙◌}
use mathlib.Core.Bool.{true}
use lib.Dec.{T, leb, lit≤}
use Rattle.std.specs.Prelude.{Some, Ok}
use Rattle.clock.specs.declared.LocalDay.{LocalDay}
use Rattle.clock.specs.declared.Clock.{Clock}
use Rattle.clock.specs.declared.DateTime.{DateTime}
use Rattle.clock.specs.declared.calendar.CalendarDate.{CalendarDate}
use Rattle.clock.specs.Range.{in_days, in_range}
use Rattle.clock.specs.Words.{clock_in, read_of}
use Rattle.clock.specs.Calendar.{leap, month_days, dated, years_before, months_before, days_to}
use Rattle.clock.specs.Calendar.{day_zero, date_of, weekday_of}
use Rattle.clock.specs.Local.{local_minutes, local_time_of, date_time_of, local_date_of}
use Rattle.clock.proofs.Dates.{date_only}
use Rattle.clock.proofs.Numbers.{date_at}

-- Day 45218, 23:59, offset -10.
abbrev pub evening : Clock
evening = record { day = record { 0 = 45218 }; hour = 23; minute = 59; negative = true; half = 10 }

-- 1982-09-06, Monday, 18:59.
abbrev pub evening-date : DateTime
evening-date = record { year = 1982; month = 9; day = 6; weekday = 1; hour = 18; minute = 59 }

abbrev pub local : ℕ → LocalDay
local day = record { 0 = day }

pub evening-read : read_of 0x4001 0x6145 0x7EEA ≡ Some evening
unfolding read_of clock_in in_range in_days
evening-read = refl

-- A date of the calendar up to which as many days have passed is the day's.
date_of_lem : (day : ℕ) (date : CalendarDate) →
    T (leb 1 date.month) →
    T (leb date.month 12) →
    T (leb 1 date.day) →
    T (leb date.day (month_days (leap date.year) date.month)) →
    days_to date ≡ days_to day_zero + day →
    date_of (local day) ≡ date
date_of_lem day date from to first last passed =
    sym
    (date_only (local day) date
    (record { month_from = lit≤ from; month_to = lit≤ to; day_from = lit≤ first; day_to = lit≤ last }) passed)

date-evening : date_of (local 45218) ≡ dated 1982 9 6
unfolding days_to years_before months_before month_days leap
date-evening = date_of_lem 45218 (dated 1982 9 6) tt tt tt tt refl

pub date-first : date_of (local 15079) ≡ dated 1900 3 1
unfolding days_to years_before months_before month_days leap
date-first = date_of_lem 15079 (dated 1900 3 1) tt tt tt tt refl

pub date_last : date_of (local 88127) ≡ dated 2100 2 28
unfolding days_to years_before months_before month_days leap
date_last = date_of_lem 88127 (dated 2100 2 28) tt tt tt tt refl

pub evening-local : local_date_of (Some evening) ≡ Ok evening-date
unfolding in_days local_time_of local_minutes date_time_of weekday_of
evening-local = sym (date_at evening refl refl) ∙ rw date-evening
