-- Laws of the header and of the kinds that the places of a group expect.
use Prim.Native.Nat.{ℕ, zero, suc, ◌≤◌}
use mathlib.Core.Path.{◌≡◌, refl}
use native.Mathlib.Omega.{arith}
use Rattle.blocks.specs.declared.Kind.TheVariants.{D}
use Rattle.groups.specs.Header.{expected_of}

-- from the fourth place on it is D
pub expected_fourth : (i w : ℕ) → 3 ≤ i → expected_of i w ≡ D
expected_fourth zero w h = absurd (omega arith)
expected_fourth (suc zero) w h = absurd (omega arith)
expected_fourth (suc (suc zero)) w h = absurd (omega arith)
expected_fourth (suc (suc (suc i))) w h = refl
