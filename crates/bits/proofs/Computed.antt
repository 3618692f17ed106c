-- A rule of all numbers below a bound, shown by one test that is computed over them.
use Prim.Native.Nat.{ℕ, zero, suc, ◌<◌}
use mathlib.Core.Path.{◌≡◌}
use mathlib.Core.Bool.{Bool, true, ◌&&◌, and-eq-true_iff}
use mathlib.Core.Logic.{⊎_elim}
use native.Mathlib.Nat.{eq-or-lt_of_le}
use native.Mathlib.Omega.{arith}

-- the test passes at each number below n
unfoldable pub all_below : (ℕ → Bool) → ℕ → Bool
all_below test zero = true
all_below test (suc n) = test n && all_below test n

pub below_at : (test : ℕ → Bool) (n : ℕ) → all_below test n ≡ true → (k : ℕ) → k < n → test k ≡ true
unfolding all_below
below_at test zero e k h = absurd (omega arith)
below_at test (suc n) e k h =
    let parts = (and-eq-true_iff (test n) (all_below test n)).0 e in
    ⊎_elim (λ same. rw same parts.0) (λ below. below_at test n parts.1 k below)
    (eq-or-lt_of_le {n = k} {m = n} (omega arith))
