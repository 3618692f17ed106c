-- The local date and time of a clock: UTC plus 30 minutes × offset, with the day that this leads to.
use Rattle.std.specs.Prelude.{ℕ, ◌+◌, ◌-◌, ◌*◌, ◌/◌, ◌%◌, Bool, true, cond, not, ◌||◌, ◌⊎◌, List, [], ◌∷◌, Option, Some, None, Result, Ok, Err}
use Rattle.clock.specs.declared.Clock.{Clock}
use Rattle.clock.specs.declared.DateTime.{DateTime}
use Rattle.clock.specs.declared.OutOfRange.{OutOfRange}
use Rattle.clock.specs.declared.LocalTime.{LocalTime}
use Rattle.clock.specs.declared.calendar.CalendarDate.{CalendarDate}
use Rattle.clock.specs.Range.{InDays, in_days}
use Rattle.clock.specs.Words.{out_of_range}
use Rattle.clock.specs.Calendar.{date_of, weekday_of}

-- The minutes of a day, of an hour and of a half hour.
abbrev pub minutes_a_day : ℕ
minutes_a_day = 1440

abbrev pub minutes_an_hour : ℕ
minutes_an_hour = 60

abbrev pub minutes_a_half : ℕ
minutes_a_half = 30

-- The minutes from the start of UTC day 0 to the clock.
abbrev pub utc_minutes : Clock → ℕ
utc_minutes clock = clock.day.0 * minutes_a_day + clock.hour * minutes_an_hour + clock.minute

-- 30 minutes × offset, without the sign.
abbrev pub offset_minutes : Clock → ℕ
offset_minutes clock = clock.half * minutes_a_half

-- The same minutes plus 30 minutes × offset. (A day in range is so late that nothing is cut off below 0.)
unfoldable pub local_minutes : Clock → ℕ
local_minutes clock =
    cond clock.negative (utc_minutes clock - offset_minutes clock) (utc_minutes clock + offset_minutes clock)

-- The offset rule: the only way from a UTC day to a local day.
unfoldable pub local_time_of : Clock → LocalTime
local_time_of clock =
    record {
      day = record { 0 = local_minutes clock / minutes_a_day };
      minutes = local_minutes clock % minutes_a_day;
    }

-- Refused: no clock held, the UTC day out of range, or the local day out of range.
abbrev pub NoDate : Option Clock → Type 0
NoDate None = Unit {0}
NoDate (Some clock) = (InDays clock.day.0 → ⊥) ⊎ (InDays (local_time_of clock).day.0 → ⊥)

-- The same as a test.
unfoldable pub date_refused : Option Clock → Bool
date_refused None = true
date_refused (Some clock) = not (in_days clock.day.0) || not (in_days (local_time_of clock).day.0)

-- A date, a weekday and the minutes since midnight as a date and time.
unfoldable pub date_time_of : CalendarDate → ℕ → ℕ → DateTime
date_time_of date weekday minutes =
    record {
      year = date.year;
      month = date.month;
      day = date.day;
      weekday = weekday;
      hour = minutes / minutes_an_hour;
      minute = minutes % minutes_an_hour;
    }

-- The date and the weekday of the local day, and the local time.
abbrev pub local_shown : LocalTime → DateTime
local_shown local = date_time_of (date_of local.day) (weekday_of local.day) local.minutes

unfoldable pub local_date_of : Option Clock → Result DateTime OutOfRange
local_date_of None = Err out_of_range
local_date_of (Some clock) =
    cond (date_refused (Some clock)) (Err out_of_range) (Ok (local_shown (local_time_of clock)))

-- The table's number of each case.
abbrev pub number_of_local : Result DateTime OutOfRange → ℕ
number_of_local (Err e) = 10
number_of_local (Ok at) = 0

-- The values of a local date and time.
abbrev pub date_time_values : DateTime → List ℕ
date_time_values at = at.year ∷ at.month ∷ at.day ∷ at.weekday ∷ at.hour ∷ at.minute ∷ []

-- The values of each case.
abbrev pub values_of_local : Result DateTime OutOfRange → List ℕ
values_of_local (Err e) = []
values_of_local (Ok at) = date_time_values at

-- The values of the clock that is held, if one is: its local date and time.
abbrev pub date_values : Option Clock → List ℕ
date_values None = []
date_values (Some clock) = date_time_values (local_shown (local_time_of clock))
