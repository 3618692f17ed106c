-- A yes or no as a number.
use mathlib.Core.Path.{◌≡◌, refl}
use mathlib.Core.Bool.{Bool, true, false, cond}
use Rattle.std.specs.Int.{from_bool}

pub flag_number : (on : Bool) → from_bool on ≡ cond on 1 0
flag_number true = refl
flag_number false = refl
