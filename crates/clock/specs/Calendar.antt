-- The Gregorian calendar and the week: the date and the weekday of a day number (MJD).
use Rattle.std.specs.Prelude.{ℕ, zero, suc, ◌+◌, ◌-◌, ◌%◌, ◌≤◌, Bool, cond, not, ◌&&◌, ◌||◌, [], ◌∷◌, eqb, ltb, get_or}
use Rattle.clock.specs.declared.LocalDay.{LocalDay}
use Rattle.clock.specs.declared.calendar.CalendarDate.{CalendarDate}

-- Every fourth year is a leap year, but of the full hundreds only every fourth one.
unfoldable pub leap : ℕ → Bool
leap year = eqb (year % 4) 0 && (not (eqb (year % 100) 0) || eqb (year % 400) 0)

-- The days of a month in a leap year or another: none of month 0, then January to December.
unfoldable pub month_days : Bool → ℕ → ℕ
month_days long month =
    get_or (0 ∷ 31 ∷ cond long 29 28 ∷ 31 ∷ 30 ∷ 31 ∷ 30 ∷ 31 ∷ 31 ∷ 30 ∷ 31 ∷ 30 ∷ 31 ∷ []) month 0

-- The date with this year, month and day.
abbrev pub dated : ℕ → ℕ → ℕ → CalendarDate
dated year month day = record { year = year; month = month; day = day }

-- A date of the calendar.
pub record Real (date : CalendarDate) : Type 0 where
  pub month_from : 1 ≤ date.month
  pub month_to : date.month ≤ 12
  pub day_from : 1 ≤ date.day
  pub day_to : date.day ≤ month_days (leap date.year) date.month

-- The days of the years before this one, from year 0 on.
unfoldable pub years_before : ℕ → ℕ
years_before zero = 0
years_before (suc year) = years_before year + cond (leap year) 366 365

-- The days of the months before this one in a leap year or another.
unfoldable pub months_before : Bool → ℕ → ℕ
months_before long zero = 0
months_before long (suc month) = months_before long month + month_days long month

-- The days up to a date and with it, from 1 January of year 0 on.
unfoldable pub days_to : CalendarDate → ℕ
days_to date = years_before date.year + months_before (leap date.year) date.month + date.day

-- Day 0: 17 November 1858.
abbrev pub day_zero : CalendarDate
day_zero = dated 1858 11 17

-- A date's own day number.
unfoldable pub day_number_of : CalendarDate → ℕ
day_number_of date = days_to date - days_to day_zero

-- The date after a date.
unfoldable pub next_of : CalendarDate → CalendarDate
next_of date =
    cond (ltb date.day (month_days (leap date.year) date.month))
    (dated date.year date.month (date.day + 1))
    (cond (ltb date.month 12) (dated date.year (date.month + 1) 1) (dated (date.year + 1) 1 1))

-- The date so many days after day 0.
unfoldable pub date_after : ℕ → CalendarDate
date_after zero = day_zero
date_after (suc days) = next_of (date_after days)

-- The date of a day.
unfoldable pub date_of : LocalDay → CalendarDate
date_of local = date_after local.0

-- Weekday is (day + 2) mod 7, plus 1, Monday 1.
unfoldable pub weekday_of : LocalDay → ℕ
weekday_of local = (local.0 + 2) % 7 + 1
