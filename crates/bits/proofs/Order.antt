-- One of two numbers is below the other, or not: the way to split a proof on an order.
use Prim.Native.Nat.{ℕ, ◌<◌, ◌≤◌}
use mathlib.Core.Logic.{◌⊎◌, inl, inr}
use native.Mathlib.Decide.{dec_lt}
use native.Mathlib.Omega.{arith}

pub lt-or-le : (a b : ℕ) → (a < b) ⊎ (b ≤ a)
lt-or-le a b = told (dec_lt a b)
  where
    told : Dec (a < b) → (a < b) ⊎ (b ≤ a)
    told (yes below) = inl below
    told (no above) = inr (omega arith)
