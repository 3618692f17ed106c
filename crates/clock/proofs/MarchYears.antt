-- The date by years that begin in March is the calendar's, on all days in range: from March on, so many months have
-- (153 × months + 2) / 5 days, and so many years from 1 March 1900 on have 1461 × years / 4.
use Prim.Native.Nat.{ℕ, zero, suc, ◌+◌, ◌-◌, ◌*◌, ◌/◌, ◌%◌, ◌≤◌, ◌<◌}
use mathlib.Core.Path.{◌≡◌, refl, sym, ap, ◌∙◌}
use mathlib.Core.Bool.{Bool, true, false, cond}
use native.Mathlib.Decide.{dec_lt}
use native.Mathlib.Omega.{arith}
use lib.Dec.{T, eqb, eqb→eq, lit≤}
use Rattle.clock.specs.declared.LocalDay.{LocalDay}
use Rattle.clock.specs.declared.calendar.CalendarDate.{CalendarDate}
use Rattle.clock.specs.Range.{first_day, InDays}
use Rattle.clock.specs.Calendar.{leap, month_days, dated, Real, years_before, months_before, days_to, day_zero, date_of}
use Rattle.clock.proofs.Table.{each, each_at}
use Rattle.clock.proofs.Dates.{years_next, date_only}

-- ---- Months from March on

-- The days of the months from March up to this one.
abbrev march : ℕ → ℕ
march months = (months * 153 + 2) / 5

-- March to December, months 0 to 9: their days, and the days before them in their year.
months-march : (long : Bool) (m : ℕ) → m < 10 →
    (month_days long (m + 3) + march m ≡ march (m + 1)) × (months_before long (m + 3) + 306 ≡ march m + cond long 366 365)
unfolding each month_days months_before
months-march long m h = at long
  where
    days : Bool → ℕ → Bool
    days long k = eqb (month_days long (k + 3) + march k) (march (k + 1))

    before : Bool → ℕ → Bool
    before long k = eqb (months_before long (k + 3) + 306) (march k + cond long 366 365)

    all-days : (long : Bool) → T (each (days long) 10)
    all-days true = tt
    all-days false = tt

    all-before : (long : Bool) → T (each (before long) 10)
    all-before true = tt
    all-before false = tt

    at : (long : Bool) →
        (month_days long (m + 3) + march m ≡ march (m + 1))
        × (months_before long (m + 3) + 306 ≡ march m + cond long 366 365)
    at long = (
      eqb→eq (month_days long (m + 3) + march m) (march (m + 1)) (each_at (days long) 10 (all-days long) m h),
      eqb→eq (months_before long (m + 3) + 306) (march m + cond long 366 365)
          (each_at (before long) 10 (all-before long) m h),
    )

-- January has 31 days, none before it; February has 31 before it.
january : (long : Bool) → (month_days long 1 ≡ 31) × (months_before long 1 ≡ 0)
unfolding month_days months_before
january long = (refl, refl)

february : (long : Bool) → (month_days long 2 ≡ cond long 29 28) × (months_before long 2 ≡ 31)
unfolding month_days months_before
february long = (refl, refl)

common : (long : Bool) → 28 ≤ cond long 29 28
common true = lit≤ tt
common false = lit≤ tt

-- The days of February and of the year.
fourth_days : (long : Bool) → cond long 29 28 + 337 ≡ cond long 366 365
fourth_days true = refl
fourth_days false = refl

-- ---- Years from 1901 on

-- From 1901 to 2099 every fourth year is a leap year.
fourth : (years : ℕ) → years < 199 → cond (leap (1901 + years)) 366 365 + years / 4 ≡ 365 + (years + 1) / 4
unfolding each leap
fourth years h =
    eqb→eq (cond (leap (1901 + years)) 366 365 + years / 4) (365 + (years + 1) / 4) (each_at test 199 tt years h)
  where
    test : ℕ → Bool
    test k = eqb (cond (leap (1901 + k)) 366 365 + k / 4) (365 + (k + 1) / 4)

-- The days of the years from 1901 on.
years_since : (years : ℕ) → years ≤ 199 → years_before (1901 + years) ≡ years_before 1901 + 365 * years + years / 4
years_since zero h = omega arith
years_since (suc years) h =
    let next : 1901 + suc years ≡ 1901 + years + 1 = omega arith in
    rw next
    (omega (arith, years_next (1901 + years), fourth years (omega arith), years_since years (omega arith)))

-- The year that begins in March ends in the next one.
year-after : (years : ℕ) → years_before (1901 + years) ≡ years_before (1900 + years) + cond (leap (1900 + years)) 366 365
year-after years =
    let next : 1901 + years ≡ 1900 + years + 1 = omega arith in
    rw next (years_next (1900 + years))

-- The days up to 1 March 1900: day 15,079.
first-march : years_before 1901 + 1 ≡ days_to day_zero + 306 + 15079
unfolding years_before months_before month_days leap days_to
first-march = refl

-- ---- The date

-- The date on a day of a month of a year, all counted from 1 March 1900 and from 0.
abbrev pub march_date : ℕ → ℕ → ℕ → CalendarDate
march_date years months days =
    dated (1900 + years + months / 10) ((months + 2) % 12 + 1) (days - (months * 153 + 2) / 5 + 1)

-- A date of the calendar after so many days.
abbrev Reached : ℕ → CalendarDate → Type 0
Reached since date = Real date × (days_to date ≡ days_to day_zero + (15079 + since))

-- The sum for March to December, over plain numbers.
early-sum : (since years fourths days first epoch before part year months : ℕ) →
    365 * years + fourths + days ≡ since →
    part ≤ days →
    first + 1 ≡ epoch + 306 + 15079 →
    first + 365 * years + fourths ≡ before + year →
    months + 306 ≡ part + year →
    before + months + (days - part + 1) ≡ epoch + (15079 + since)
early-sum since years fourths days first epoch before part year months a b c d e = omega arith

module _ (since years days months : ℕ)
    (in-time : since ≤ 73048)
    (by-years : years ≡ (4 * since + 3) / 1461)
    (by-days : days ≡ since - years * 1461 / 4)
    (by-months : months ≡ (5 * days + 2) / 153)
  where
    -- The days of the years, of the months and the rest make up the whole.
    whole-years : 365 * years + years / 4 + days ≡ since
    whole-years = omega arith

    whole-months : march months ≤ days
    whole-months = omega arith

    -- March to December belong to the year in which March is.
    early : months < 10 → Reached since (march_date years months days)
    unfolding days_to
    early h =
        let year : 1900 + years + months / 10 ≡ 1900 + years = omega arith in
        let month : (months + 2) % 12 + 1 ≡ months + 3 = omega arith in
        rw (year, month) (
          record {
            month_from = omega arith;
            month_to = omega arith;
            day_from = omega arith;
            day_to = omega (arith, (months-march (leap (1900 + years)) months h).0);
          },
          early-sum since years (years / 4) days (years_before 1901) (days_to day_zero)
              (years_before (1900 + years)) (march months)
              (cond (leap (1900 + years)) 366 365) (months_before (leap (1900 + years)) (months + 3))
              whole-years whole-months first-march
              (sym (years_since years (omega arith)) ∙ year-after years)
              (months-march (leap (1900 + years)) months h).1,
        )

    -- January and February belong to the next year; the 29th of February comes in leap years only.
    january-date : months ≡ 10 → Reached since (march_date years months days)
    unfolding days_to
    january-date h =
        let year : 1900 + years + months / 10 ≡ 1901 + years = omega arith in
        let month : (months + 2) % 12 + 1 ≡ 1 = omega arith in
        rw (year, month) (
          record {
            month_from = omega arith;
            month_to = omega arith;
            day_from = omega arith;
            day_to = omega (arith, (january (leap (1901 + years))).0);
          },
          omega
              (arith, whole-years, first-march, years_since years (omega arith), (january (leap (1901 + years))).1),
        )

    february-date : months ≡ 11 → Reached since (march_date years months days)
    unfolding days_to
    february-date h =
        let year : 1900 + years + months / 10 ≡ 1901 + years = omega arith in
        let month : (months + 2) % 12 + 1 ≡ 2 = omega arith in
        rw (year, month) (
          record {
            month_from = omega arith;
            month_to = omega arith;
            day_from = omega arith;
            day_to = leap-day (dec_lt days 365);
          },
          omega
              (arith, whole-years, first-march, years_since years (omega arith), (february (leap (1901 + years))).1),
        )
      where
        leap-day : Dec (days < 365) → days - (months * 153 + 2) / 5 + 1 ≤ month_days (leap (1901 + years)) 2
        leap-day (yes p) = omega (arith, (february (leap (1901 + years))).0, common (leap (1901 + years)))
        leap-day (no q) =
            let full : (years + 1) / 4 ≡ years / 4 + 1 = omega (arith, q, whole-years) in
            let inside : years < 199 = omega (arith, q, whole-years) in
            let year : cond {A = ℕ} (leap (1901 + years)) 366 365 ≡ 366 = omega (arith, full, fourth years inside) in
            let month : month_days (leap (1901 + years)) 2 ≡ 29 =
            omega (arith, year, (february (leap (1901 + years))).0, fourth_days (leap (1901 + years))) in
            omega (arith, month)

    reached : Reached since (march_date years months days)
    reached = at (dec_lt months 10) (dec_lt months 11)
      where
        at : Dec (months < 10) → Dec (months < 11) → Reached since (march_date years months days)
        at (yes p) q = early p
        at (no p) (yes q) = january-date (omega (arith, p, q))
        at (no p) (no q) = february-date (omega (arith, q, whole-months))

-- The date of a day in range, worked by years that begin in March, is the calendar's.
pub march-date : (local : LocalDay) → InDays local.0 →
    (since years days months : ℕ) →
    since ≡ local.0 - first_day →
    years ≡ (4 * since + 3) / 1461 →
    days ≡ since - years * 1461 / 4 →
    months ≡ (5 * days + 2) / 153 →
    march_date years months days ≡ date_of local
march-date local within since years days months by-since by-years by-days by-months =
    date_only local (march_date years months days) there.0
    (there.1 ∙ ap (λ (day : ℕ). days_to day_zero + day) (omega (arith, within.first)))
  where
    there : Reached since (march_date years months days)
    there = reached since years days months (omega (arith, within.last)) by-years by-days by-months
