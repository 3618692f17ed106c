-- The calendar's laws, for every day: the date of a day is a date of the calendar, its own day number is the day, and
-- no other date has it. The next date is one day on; sums of months and years grow, so two dates never meet.
use Prim.Native.Nat.{ℕ, zero, suc, ◌+◌, ◌-◌, ◌≤◌, ◌<◌}
use mathlib.Core.Path.{◌≡◌, refl, sym, ap, ◌∙◌}
use mathlib.Core.Bool.{Bool, true, false, cond}
use native.Mathlib.Decide.{dec_lt, le_ind}
use native.Mathlib.Numerals.{add-one}
use native.Mathlib.Omega.{arith}
use lib.Dec.{T, leb, leb→le, lit≤}
use borrow.Author.Tests.{lt-ltb, le-ltb}
use Rattle.clock.specs.declared.LocalDay.{LocalDay}
use Rattle.clock.specs.declared.calendar.CalendarDate.{CalendarDate}
use Rattle.clock.specs.Calendar.{leap, month_days, dated, Real, years_before, months_before, days_to}
use Rattle.clock.specs.Calendar.{day_zero, day_number_of, next_of, date_after, date_of}
use Rattle.clock.proofs.Table.{each, each_at}

-- ---- Months

-- Every month has a day.
pub month-has_day : (long : Bool) (month : ℕ) → 1 ≤ month → month ≤ 12 → 1 ≤ month_days long month
unfolding each month_days
month-has_day long month from to = at long
  where
    test : Bool → ℕ → Bool
    test long k = leb 1 (month_days long (k + 1))

    all : (long : Bool) → T (each (test long) 12)
    all true = tt
    all false = tt

    at : (long : Bool) → 1 ≤ month_days long month
    at long =
        let same : month ≡ month - 1 + 1 = omega arith in
        rw same
        (leb→le 1 (month_days long (month - 1 + 1))
        (each_at (test long) 12 (all long) (month - 1) (omega arith)))

-- A year's months have its days.
pub twelve_months : (long : Bool) → months_before long 13 ≡ cond long 366 365
unfolding months_before month_days
twelve_months true = refl
twelve_months false = refl

-- December has 31 days.
pub december : (long : Bool) → (month_days long 12 ≡ 31) × (months_before long 12 + 31 ≡ cond long 366 365)
unfolding months_before month_days
december true = (refl, refl)
december false = (refl, refl)

-- Before January there is none.
no_month : (long : Bool) → months_before long 1 ≡ 0
unfolding months_before month_days
no_month long = refl

pub months_next : (long : Bool) (month : ℕ) →
    months_before long (month + 1) ≡ months_before long month + month_days long month
unfolding months_before
months_next long month = rw add-one

pub months_grow : (long : Bool) {m n : ℕ} → m ≤ n → months_before long m ≤ months_before long n
unfolding months_before
months_grow long {m} {n} h =
    le_ind (λ (k : ℕ). months_before long m ≤ months_before long k) (omega arith)
    (λ k from before. omega arith) n h

-- ---- Years

pub years_next : (year : ℕ) → years_before (year + 1) ≡ years_before year + cond (leap year) 366 365
unfolding years_before
years_next year = rw add-one

pub years_grow : {m n : ℕ} → m ≤ n → years_before m ≤ years_before n
unfolding years_before
years_grow {m} {n} h =
    le_ind (λ (k : ℕ). years_before m ≤ years_before k) (omega arith)
    (λ k from before. omega arith) n h

-- ---- The next date

-- A date of the calendar lies in its month, and so in its year.
pub in_month : (date : CalendarDate) → Real date →
    years_before date.year + months_before (leap date.year) date.month < days_to date
unfolding days_to
in_month date real = omega (arith, real.day_from)

pub to_month : (date : CalendarDate) → Real date →
    days_to date ≤ years_before date.year + months_before (leap date.year) (date.month + 1)
unfolding days_to
to_month date real = omega (arith, real.day_to, months_next (leap date.year) date.month)

pub in_year : (date : CalendarDate) → Real date → years_before date.year < days_to date
in_year date real = omega (arith, in_month date real)

pub to_year : (date : CalendarDate) → Real date → days_to date ≤ years_before (date.year + 1)
to_year date real =
    let to : date.month + 1 ≤ 13 = omega (arith, real.month_to) in
    omega (
      arith,
      to_month date real,
      months_grow (leap date.year) to,
      twelve_months (leap date.year),
      years_next date.year,
    )

-- The next date is a date of the calendar, one day on.
abbrev OneOn : CalendarDate → CalendarDate → Type 0
OneOn date next = Real next × (days_to next ≡ days_to date + 1)

pub next-date : (date : CalendarDate) → Real date → OneOn date (next_of date)
unfolding next_of days_to
next-date date real = at (dec_lt date.day days) (dec_lt date.month 12)
  where
    days : ℕ
    days = month_days (leap date.year) date.month

    at : Dec (date.day < days) → Dec (date.month < 12) → OneOn date (next_of date)
    at (yes p) last =
        rw (lt-ltb date.day days p) (
          record {
            month_from = real.month_from;
            month_to = real.month_to;
            day_from = omega arith;
            day_to = omega arith;
          },
          omega arith,
        )
    at (no q) (yes p) =
        rw (le-ltb date.day days (omega (arith, q)), lt-ltb date.month 12 p) (
          record {
            month_from = omega arith;
            month_to = omega arith;
            day_from = omega arith;
            day_to = month-has_day (leap date.year) (date.month + 1) (omega arith) (omega arith);
          },
          omega (arith, q, real.day_to, months_next (leap date.year) date.month),
        )
    at (no q) (no p) =
        let same : date.month ≡ 12 = omega (arith, p, real.month_to) in
        rw (le-ltb date.day days (omega (arith, q)), le-ltb date.month 12 (omega (arith, p))) (
          record {
            month_from = omega arith;
            month_to = omega arith;
            day_from = omega arith;
            day_to = month-has_day (leap (date.year + 1)) 1 (omega arith) (omega arith);
          },
          omega (
            arith,
            q,
            real.day_to,
            years_next date.year,
            (december (leap date.year)).0,
            (december (leap date.year)).1,
            ap (λ (m : ℕ). month_days (leap date.year) m) same,
            ap (λ (m : ℕ). months_before (leap date.year) m) same,
            no_month (leap (date.year + 1)),
          ),
        )

-- ---- The date of a day

november : 17 ≤ month_days (leap 1858) 11
unfolding month_days
november = lit≤ tt

date-after : (days : ℕ) → Real (date_after days) × (days_to (date_after days) ≡ days_to day_zero + days)
unfolding date_after
date-after zero =
    (record { month_from = lit≤ tt; month_to = lit≤ tt; day_from = lit≤ tt; day_to = november }, omega arith)
date-after (suc days) = on (date_after days) (date-after days).1 (next-date (date_after days) (date-after days).0)
  where
    on : (date : CalendarDate) →
        days_to date ≡ days_to day_zero + days →
        OneOn date (next_of date) →
        Real (next_of date) × (days_to (next_of date) ≡ days_to day_zero + suc days)
    on date here next = (next.0, omega (arith, here, next.1))

dated-same : {year year' month month' day day' : ℕ} →
    year ≡ year' →
    month ≡ month' →
    day ≡ day' →
    dated year month day ≡ dated year' month' day'
dated-same y m d = cc

eq_of : (m n : ℕ) → (m < n → ⊥) → (n < m → ⊥) → m ≡ n
eq_of m n not-less not_more = at (dec_lt m n) (dec_lt n m)
  where
    at : Dec (m < n) → Dec (n < m) → m ≡ n
    at (yes p) q = absurd (not-less p)
    at (no p) (yes q) = absurd (not_more q)
    at (no p) (no q) = omega (arith, p, q)

earlier_year : (a b : CalendarDate) → Real a → Real b → days_to a ≡ days_to b → a.year < b.year → ⊥
earlier_year a b ra rb e h =
    let next : a.year + 1 ≤ b.year = omega arith in
    omega (arith, e, to_year a ra, years_grow next, in_year b rb)

earlier_month : (a b : CalendarDate) → Real a → Real b →
    a.year ≡ b.year →
    days_to a ≡ days_to b →
    a.month < b.month →
    ⊥
earlier_month a b ra rb same e h =
    let next : a.month + 1 ≤ b.month = omega arith in
    let from :
    years_before a.year + months_before (leap a.year) b.month
    ≡ years_before b.year + months_before (leap b.year) b.month =
    rw same in
    omega (arith, e, from, to_month a ra, months_grow (leap a.year) next, in_month b rb)

-- Two dates of the calendar up to which as many days have passed are one.
pub one-date : (a b : CalendarDate) → Real a → Real b → days_to a ≡ days_to b → a ≡ b
unfolding days_to
one-date a b ra rb e =
    let year : a.year ≡ b.year =
    eq_of a.year b.year (earlier_year a b ra rb e) (earlier_year b a rb ra (sym e)) in
    let month : a.month ≡ b.month =
    eq_of a.month b.month (earlier_month a b ra rb year e)
    (earlier_month b a rb ra (sym year) (sym e)) in
    let long : leap a.year ≡ leap b.year = ap leap year in
    let before : months_before (leap a.year) a.month ≡ months_before (leap b.year) b.month = cc in
    let years : years_before a.year ≡ years_before b.year = ap years_before year in
    let day : a.day ≡ b.day = omega arith in
    dated-same year month day

-- The date of a day is a date of the calendar.
pub date_real : (local : LocalDay) → Real (date_of local)
unfolding date_of
date_real local = (date-after local.0).0

-- The date's own day number is the day.
pub date-number : (local : LocalDay) → day_number_of (date_of local) ≡ local.0
unfolding date_of day_number_of
date-number local = omega (arith, (date-after local.0).1)

-- No other date has it.
pub date_only : (local : LocalDay) (date : CalendarDate) →
    Real date →
    days_to date ≡ days_to day_zero + local.0 →
    date ≡ date_of local
unfolding date_of
date_only local date real e =
    one-date date (date_after local.0) real (date-after local.0).0 (e ∙ sym (date-after local.0).1)

pub number_only : (local : LocalDay) (date : CalendarDate) →
    Real date →
    1 ≤ local.0 →
    day_number_of date ≡ local.0 →
    date ≡ date_of local
unfolding day_number_of
number_only local date real later e = date_only local date real (omega (arith, later, e))
