-- Clocks with equal parts are equal, and a flag is a number.
use Prim.Native.Nat.{ℕ}
use mathlib.Core.Path.{◌≡◌, refl}
use mathlib.Core.Bool.{Bool, true, false, cond}
use Rattle.std.specs.Int.{from_bool}
use Rattle.clock.specs.declared.Clock.{Clock}

abbrev pub clock_with : ℕ → ℕ → ℕ → Bool → ℕ → Clock
clock_with day hour minute negative half =
    record { day = record { 0 = day }; hour = hour; minute = minute; negative = negative; half = half }

pub clock-same : {day day' hour hour' minute minute' half half' : ℕ} {negative negative' : Bool} →
    day ≡ day' →
    hour ≡ hour' →
    minute ≡ minute' →
    negative ≡ negative' →
    half ≡ half' →
    clock_with day hour minute negative half ≡ clock_with day' hour' minute' negative' half'
clock-same d h m n f = cc

-- A flag as a number.
pub flag_number : (flag : Bool) → from_bool flag ≡ cond flag 1 0
flag_number true = refl
flag_number false = refl
