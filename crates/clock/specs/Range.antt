-- The ranges in which a clock is taken, as a test and as the rule.
use Rattle.std.specs.Prelude.{ℕ, ◌≤◌, Bool, ◌&&◌, leb}
use Rattle.clock.specs.declared.Clock.{Clock}

-- The days from 15,079 to 88,127, where the standard's date formulas hold.
abbrev pub first_day : ℕ
first_day = 15079

abbrev pub last_day : ℕ
last_day = 88127

-- Hour at most 23, minute at most 59, offset at most 24 half hours, PTY at most 31.
abbrev pub last_hour : ℕ
last_hour = 23

abbrev pub last_minute : ℕ
last_minute = 59

abbrev pub last_half : ℕ
last_half = 24

abbrev pub last_pty : ℕ
last_pty = 31

-- A day in range.
pub record InDays (day : ℕ) : Type 0 where
  pub first : first_day ≤ day
  pub last : day ≤ last_day

unfoldable pub in_days : ℕ → Bool
in_days day = leb first_day day && leb day last_day

-- A clock with every field in range.
pub record InRange (clock : Clock) : Type 0 where
  pub day : InDays clock.day.0
  pub hour : clock.hour ≤ last_hour
  pub minute : clock.minute ≤ last_minute
  pub half : clock.half ≤ last_half

unfoldable pub in_range : Clock → Bool
in_range clock =
    in_days clock.day.0 && leb clock.hour last_hour && leb clock.minute last_minute && leb clock.half last_half
