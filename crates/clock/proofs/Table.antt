-- A rule that antt computes at each number below a limit holds at each of them.
use Prim.Native.Nat.{ℕ, zero, suc, ◌<◌}
use mathlib.Core.Path.{◌≡◌}
use mathlib.Core.Bool.{Bool, true, false, ◌&&◌}
use native.Mathlib.Nat.{not-suc-le-zero}
use native.Mathlib.Omega.{arith}
use native.Mathlib.Decide.{dec_lt}
use lib.Dec.{T}

-- The test passes at each number below the limit.
unfoldable pub each : (ℕ → Bool) → ℕ → Bool
each test zero = true
each test (suc n) = test n && each test n

and_left : (a b : Bool) → T (a && b) → T a
and_left true b t = tt
and_left false b t = t

and_right : (a b : Bool) → T (a && b) → T b
and_right true b t = t
and_right false b t = absurd t

pub each_at : (test : ℕ → Bool) (n : ℕ) → T (each test n) → (k : ℕ) → k < n → T (test k)
unfolding each
each_at test zero t k h = absurd (not-suc-le-zero h)
each_at test (suc n) t k h = at (each_at test n (and_right (test n) (each test n) t) k) (dec_lt k n)
  where
    at : (k < n → T (test k)) → Dec (k < n) → T (test k)
    at below (yes p) = below p
    at below (no q) =
        let same : k ≡ n = omega (arith, q) in
        rw same (and_left (test n) (each test n) t)
