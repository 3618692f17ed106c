-- The bitwise sum is a sum: associative, and each number is its own opposite. The library has the rest.
-- `simp xors` closes any equation between such sums, in whatever order and grouping their terms stand.
use Prim.Native.Nat.{ℕ, zero, suc, ◌+◌, ◌*◌, ◌/◌, ◌%◌, ◌<◌}
use mathlib.Core.Path.{◌≡◌, refl, sym, ap, ap₂, ◌∙◌}
use native.Mathlib.Nat.{mod-lt}
use native.Mathlib.Omega.{arith}
use lib.Arith.{bin_ind}
use lib.Bits.{bit_xor, differ, xor_step, xor_shr, xor_mod, xor_comm, xor_self, xor_zero_l, xor_zero_r}

-- at single bits: eight cases
digit_assoc : (x y z : ℕ) → x < 2 → y < 2 → z < 2 → differ (bit_xor x y) z ≡ differ x (bit_xor y z)
digit_assoc zero y z p q r = by_cases y z q r
  where
    by_cases : (y z : ℕ) → y < 2 → z < 2 → differ (bit_xor 0 y) z ≡ differ 0 (bit_xor y z)
    by_cases zero z q r = refl
    by_cases (suc zero) zero q r = refl
    by_cases (suc zero) (suc zero) q r = refl
    by_cases (suc zero) (suc (suc z)) q r = absurd (omega arith)
    by_cases (suc (suc y)) z q r = absurd (omega arith)
digit_assoc (suc zero) y z p q r = by_cases y z q r
  where
    by_cases : (y z : ℕ) → y < 2 → z < 2 → differ (bit_xor 1 y) z ≡ differ 1 (bit_xor y z)
    by_cases zero zero q r = refl
    by_cases zero (suc zero) q r = refl
    by_cases zero (suc (suc z)) q r = absurd (omega arith)
    by_cases (suc zero) zero q r = refl
    by_cases (suc zero) (suc zero) q r = refl
    by_cases (suc zero) (suc (suc z)) q r = absurd (omega arith)
    by_cases (suc (suc y)) z q r = absurd (omega arith)
digit_assoc (suc (suc x)) y z p q r = absurd (omega arith)

pub xor_assoc : (a b c : ℕ) → bit_xor (bit_xor a b) c ≡ bit_xor a (bit_xor b c)
xor_assoc a b c =
    bin_ind (λ (n : ℕ). (b c : ℕ) → bit_xor (bit_xor n b) c ≡ bit_xor n (bit_xor b c)) (λ b c. refl)
    (λ n before b c.
    xor_step (bit_xor n b) c
    ∙ ap₂ (λ (h l : ℕ). bit_xor h (c / 2) * 2 + differ l (c % 2)) (xor_shr n b 1) (xor_mod n b 1)
    ∙ ap₂ (λ (h l : ℕ). h * 2 + l) (before (b / 2) (c / 2))
    (digit_assoc (n % 2) (b % 2) (c % 2) (mod-lt n (omega arith)) (mod-lt b (omega arith)) (mod-lt c (omega arith)))
    ∙ sym (ap₂ (λ (h l : ℕ). bit_xor (n / 2) h * 2 + differ (n % 2) l) (xor_shr b c 1) (xor_mod b c 1))
    ∙ sym (xor_step n (bit_xor b c)))
    a b c

-- what is added twice is taken off again
pub xor_front : (a b : ℕ) → bit_xor a (bit_xor a b) ≡ b
xor_front a b = sym (xor_assoc a a b) ∙ ap (λ (x : ℕ). bit_xor x b) (xor_self a) ∙ xor_zero_l b

-- two terms change places
pub xor-left : (a b c : ℕ) → bit_xor a (bit_xor b c) ≡ bit_xor b (bit_xor a c)
xor-left a b c = sym (xor_assoc a b c) ∙ ap (λ (x : ℕ). bit_xor x c) (xor_comm a b) ∙ xor_assoc b a c

pub ruleset xors = (xor_assoc, xor_comm, xor-left, xor_front, xor_self, xor_zero_r, xor_zero_l)

-- a sum of nothing has equal terms
pub xor_equal : (a b : ℕ) → bit_xor a b ≡ 0 → a ≡ b
xor_equal a b e = sym (xor_zero_r a) ∙ ap (bit_xor a) (sym e) ∙ xor_front a b
