-- Digits: a number of two digits or more is what stands before its last digit, with one digit more; and how many digits
-- a number has at most.
use Prim.Native.Nat.{ℕ, zero, suc, ◌+◌, ◌/◌, ◌%◌, ◌^◌, ◌<◌, ◌≤◌}
use mathlib.Core.Path.{◌≡◌, refl, ap}
use mathlib.Core.List.{List, [], ◌∷◌, ◌++◌}
use mathlib.Core.Bool.{Bool, true, false, cond}
use native.Mathlib.Omega.{arith}
use native.Mathlib.Nat.{div-lt_iff_lt-mul, div-lt_self, one-mul, pow-zero, pow-suc}
use lib.Dec.{ltb}
use lib.ListN.{length, length-append}
use borrow.Author.Tests.{lt-ltb, le-ltb, ltb-true, ltb-false}
use Rattle.letters.specs.Letters.{digits_in, digits_of}

module _ (base nought : ℕ) (many : 1 < base) where
  -- what stands before the last digit is less
  before_last : (n : ℕ) → base ≤ n → n / base < n
  before_last n h = div-lt_self (omega arith) many

  -- room for more digits changes nothing
  same_digits : (f g n : ℕ) → n < f → n < g → digits_in f base nought n ≡ digits_in g base nought n
  unfolding digits_in
  same_digits zero g n h k = absurd (omega arith)
  same_digits (suc f) zero n h k = absurd (omega arith)
  same_digits (suc f) (suc g) n h k =
      by_size (ltb n base) refl
      λ large. same_digits f g (n / base) (omega (arith, before_last n large)) (omega (arith, before_last n large))
    where
      by_size : (small : Bool) → ltb n base ≡ small
          → (base ≤ n → digits_in f base nought (n / base) ≡ digits_in g base nought (n / base))
          → cond small ((nought + n) ∷ []) (digits_in f base nought (n / base) ++ (nought + n % base) ∷ [])
          ≡ cond small ((nought + n) ∷ []) (digits_in g base nought (n / base) ++ (nought + n % base) ∷ [])
      by_size true e same = refl
      by_size false e same = ap (λ (l : List ℕ). l ++ (nought + n % base) ∷ []) (same (ltb-false n base e))

  pub digits_small : (n : ℕ) → n < base → digits_of base nought n ≡ (nought + n) ∷ []
  unfolding digits_of digits_in
  digits_small n h = rw (lt-ltb n base h)

  pub digits_large : (n : ℕ) → base ≤ n → digits_of base nought n ≡ digits_of base nought (n / base) ++
      (nought + n % base) ∷ []
  unfolding digits_of digits_in
  digits_large n h = rw (le-ltb n base h) (ap (λ (l : List ℕ). l ++ (nought + n % base) ∷ [])
      (same_digits n (suc (n / base)) (n / base) (before_last n h) (omega arith)))

  -- how many there are
  pub count_small : (n : ℕ) → n < base → length (digits_of base nought n) ≡ 1
  count_small n h = rw (digits_small n h)

  pub count_large : (n : ℕ) → base ≤ n → length (digits_of base nought n) ≡ length (digits_of base nought (n / base)) + 1
  count_large n h =
      rw (digits_large n h) (length-append (digits_of base nought (n / base)) ((nought + n % base) ∷ []))

  -- a number below the base to the k has at most k digits
  pub count_most : (k n : ℕ) → n < base ^ suc k → length (digits_of base nought n) ≤ suc k
  count_most zero n h = let e = count_small n (rw (pow-suc base zero, pow-zero base, one-mul base) at h) in omega arith
  count_most (suc k) n h =
      by_size (ltb n base) refl
      (count_most k (n / base) ((div-lt_iff_lt-mul (omega arith)).1 (rw (pow-suc base (suc k)) at h)))
    where
      by_size : (small : Bool) → ltb n base ≡ small → length (digits_of base nought (n / base)) ≤ suc k
          → length (digits_of base nought n) ≤ suc (suc k)
      by_size true e most = let one = count_small n (ltb-true n base e) in omega arith
      by_size false e most = let more = count_large n (ltb-false n base e) in omega arith
