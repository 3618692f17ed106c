-- The tests of a clock's ranges agree with the rule: true exactly if it holds.
use Prim.Native.Nat.{ℕ}
use mathlib.Core.Path.{◌≡◌, refl}
use mathlib.Core.Bool.{Bool, true, false, ◌&&◌, and-eq-true_iff}
use lib.Dec.{leb}
use borrow.Author.Tests.{le-leb, leb-true}
use Rattle.clock.specs.declared.Clock.{Clock}
use Rattle.clock.specs.Range.{first_day, last_day, last_hour, last_minute, last_half, InDays, in_days, InRange, in_range}

pub in_days_true : (day : ℕ) → in_days day ≡ true → InDays day
unfolding in_days
in_days_true day e = record { first = leb-true first_day day both.0; last = leb-true day last_day both.1 }
  where
    both : (leb first_day day ≡ true) × (leb day last_day ≡ true)
    both = (and-eq-true_iff (leb first_day day) (leb day last_day)).0 e

pub days_in_true : (day : ℕ) → InDays day → in_days day ≡ true
unfolding in_days
days_in_true day within = rw (le-leb first_day day within.first, le-leb day last_day within.last)

pub in_range_true : (clock : Clock) → in_range clock ≡ true → InRange clock
unfolding in_range
in_range_true clock e =
    record {
      day = in_days_true clock.day.0 days.0;
      hour = leb-true clock.hour last_hour days.1;
      minute = leb-true clock.minute last_minute hours.1;
      half = leb-true clock.half last_half minutes.1;
    }
  where
    minutes :
        (in_days clock.day.0 && leb clock.hour last_hour && leb clock.minute last_minute ≡ true)
        × (leb clock.half last_half ≡ true)
    minutes =
        (and-eq-true_iff (in_days clock.day.0 && leb clock.hour last_hour && leb clock.minute last_minute)
        (leb clock.half last_half)).0 e

    hours :
        (in_days clock.day.0 && leb clock.hour last_hour ≡ true) × (leb clock.minute last_minute ≡ true)
    hours =
        (and-eq-true_iff (in_days clock.day.0 && leb clock.hour last_hour) (leb clock.minute last_minute)).0
        minutes.0

    days : (in_days clock.day.0 ≡ true) × (leb clock.hour last_hour ≡ true)
    days = (and-eq-true_iff (in_days clock.day.0) (leb clock.hour last_hour)).0 hours.0

pub range_in_true : (clock : Clock) → InRange clock → in_range clock ≡ true
unfolding in_range
range_in_true clock within =
    rw (
      days_in_true clock.day.0 within.day,
      le-leb clock.hour last_hour within.hour,
      le-leb clock.minute last_minute within.minute,
      le-leb clock.half last_half within.half,
    )

not_true : (test : Bool) → (test ≡ true → ⊥) → test ≡ false
not_true true h = absurd (h refl)
not_true false h = refl

pub days_out_false : (day : ℕ) → (InDays day → ⊥) → in_days day ≡ false
days_out_false day out = not_true (in_days day) (λ e. out (in_days_true day e))

pub range_out_false : (clock : Clock) → (InRange clock → ⊥) → in_range clock ≡ false
range_out_false clock out = not_true (in_range clock) (λ e. out (in_range_true clock e))
