-- The number and the values of each answer, and when the number is 10.
use Prim.Native.Nat.{ℕ, ◌≤◌, ◌<◌}
use mathlib.Core.Path.{◌≡◌, refl, sym, ap, ◌∙◌}
use mathlib.Core.Bool.{Bool, true, false, or-true, true≢false}
use mathlib.Core.Logic.{◌↔◌, inl, inr}
use native.Mathlib.Decide.{dec_lt}
use native.Mathlib.Omega.{arith}
use borrow.Author.Tests.{lt-ltb, le-ltb}
use Rattle.clock.specs.declared.Clock.{Clock}
use Rattle.std.specs.Prelude.{Option, Some, None, Ok, Err}
use Rattle.clock.specs.Range.{InDays, in_days, in_range, last_pty}
use Rattle.clock.specs.Words.{clock_in, read_of}
use Rattle.clock.specs.Words.{NoWords, write_refused, write_of}
use Rattle.clock.specs.Words.{number_of_written, words_of, out_of_range}
use Rattle.clock.specs.Local.{local_time_of, local_shown, NoDate, date_refused, local_date_of}
use Rattle.clock.specs.Local.{number_of_local}
use Rattle.clock.proofs.Ranges.{days_in_true, days_out_false, range_in_true, range_out_false}

ten-not-zero : ◌≡◌ {A = ℕ} 0 10 → ⊥
ten-not-zero e = omega arith

-- ---- Which answer is given

pub read_at : (word2 word3 word4 : ℕ) → in_range (clock_in word2 word3 word4) ≡ true →
    Some (clock_in word2 word3 word4) ≡ read_of word2 word3 word4
unfolding read_of
read_at word2 word3 word4 e = rw e

pub read_nothing : (word2 word3 word4 : ℕ) → in_range (clock_in word2 word3 word4) ≡ false →
    None ≡ read_of word2 word3 word4
unfolding read_of
read_nothing word2 word3 word4 e = rw e

module _ (pi : ℕ) (tp : Bool) (pty : ℕ) (clock : Clock) where
  pub write_words : in_range clock ≡ true → pty ≤ last_pty →
      Ok (words_of pi tp pty clock) ≡ write_of pi tp pty clock
  unfolding write_of write_refused
  write_words e h = rw (e, le-ltb last_pty pty h)

  pub write_out : in_range clock ≡ false → Err out_of_range ≡ write_of pi tp pty clock
  unfolding write_of write_refused
  write_out e = rw e

  pub write_over : last_pty < pty → Err out_of_range ≡ write_of pi tp pty clock
  unfolding write_of write_refused
  write_over h = rw (lt-ltb last_pty pty h, or-true)

module _ (clock : Clock) where
  pub date_utc_out : in_days clock.day.0 ≡ false → Err out_of_range ≡ local_date_of (Some clock)
  unfolding local_date_of date_refused
  date_utc_out e = rw e

  pub date_local_out : in_days (local_time_of clock).day.0 ≡ false → Err out_of_range ≡ local_date_of (Some clock)
  unfolding local_date_of date_refused
  date_local_out e = rw (e, or-true)

  pub date_at : in_days clock.day.0 ≡ true → in_days (local_time_of clock).day.0 ≡ true →
      Ok (local_shown (local_time_of clock)) ≡ local_date_of (Some clock)
  unfolding local_date_of date_refused
  date_at utc local = rw (utc, local)

pub date-none : Err out_of_range ≡ local_date_of None
unfolding local_date_of
date-none = refl

-- ---- Number 10 exactly if the table says

-- Writing: a clock field out of range, or PTY over 31.
pub write_10 : (pi : ℕ) (tp : Bool) (pty : ℕ) (clock : Clock) →
    (number_of_written (write_of pi tp pty clock) ≡ 10) ↔ NoWords pty clock
write_10 pi tp pty clock = (to (in_range clock) refl (dec_lt last_pty pty), from)
  where
    words : in_range clock ≡ true → pty ≤ last_pty → number_of_written (write_of pi tp pty clock) ≡ 10 → ⊥
    words r h e = ten-not-zero (ap number_of_written (write_words pi tp pty clock r h) ∙ e)

    to : (t : Bool) →
        in_range clock ≡ t →
        Dec (last_pty < pty) →
        number_of_written (write_of pi tp pty clock) ≡ 10 →
        NoWords pty clock
    to t r (yes p) e = inr p
    to true r (no q) e = absurd (words r (omega (arith, q)) e)
    to false r (no q) e = inl (λ within. true≢false (sym (range_in_true clock within) ∙ r))

    from : NoWords pty clock → number_of_written (write_of pi tp pty clock) ≡ 10
    from (inl out) = ap number_of_written (sym (write_out pi tp pty clock (range_out_false clock out)))
    from (inr over) = ap number_of_written (sym (write_over pi tp pty clock over))

-- The date: no clock held, or the UTC day or the local day out of range; nothing else is refused.
pub date_10 : (held : Option Clock) → (number_of_local (local_date_of held) ≡ 10) ↔ NoDate held
date_10 None = (λ e. tt, λ u. ap number_of_local (sym date-none))
date_10 (Some clock) = (to (in_days clock.day.0) refl (in_days (local_time_of clock).day.0) refl, from)
  where
    dated : in_days clock.day.0 ≡ true →
        in_days (local_time_of clock).day.0 ≡ true →
        number_of_local (local_date_of (Some clock)) ≡ 10 →
        ⊥
    dated utc local e = ten-not-zero (ap number_of_local (date_at clock utc local) ∙ e)

    out : (day : ℕ) → in_days day ≡ false → InDays day → ⊥
    out day e within = true≢false (sym (days_in_true day within) ∙ e)

    to : (a : Bool) →
        in_days clock.day.0 ≡ a →
        (b : Bool) →
        in_days (local_time_of clock).day.0 ≡ b →
        number_of_local (local_date_of (Some clock)) ≡ 10 →
        NoDate (Some clock)
    to false r b s e = inl (out clock.day.0 r)
    to true r false s e = inr (out (local_time_of clock).day.0 s)
    to true r true s e = absurd (dated r s e)

    from : NoDate (Some clock) → number_of_local (local_date_of (Some clock)) ≡ 10
    from (inl utc) = ap number_of_local (sym (date_utc_out clock (days_out_false clock.day.0 utc)))
    from (inr local) =
        ap number_of_local (sym (date_local_out clock (days_out_false (local_time_of clock).day.0 local)))
