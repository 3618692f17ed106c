-- Laws of the long division: every number is a multiple of the divisor plus its remainder, the remainder is below
-- 1024, no other number below 1024 would do, and remainders of sums are sums. Each is an induction on a number's
-- binary digits.
use Prim.Native.Nat.{ℕ, zero, suc, ◌+◌, ◌*◌, ◌/◌, ◌%◌, ◌^◌, ◌<◌, ◌≤◌}
use mathlib.Core.Path.{◌≡◌, refl, sym, ap, ap₂, ◌∙◌}
use mathlib.Core.Logic.{⊎_elim}
use native.Mathlib.Nat.{mod-lt, le_refl, not-suc-le-zero, zero-mul, add-zero, mul-one, mul_assoc, pow-suc, div-add-mod'}
use native.Mathlib.Decide.{le_ind}
use native.Mathlib.Omega.{arith}
use lib.Arith.{bin_ind, half_le}
use lib.Bits.{bit_xor, xor_shr, xor_mod, xor_lt, xor_block, xor_zero_r, xor_zero_l}
use borrow.Author.Tests.{lt-ltb, le-ltb}
use Rattle.bits.proofs.Order.{lt-or-le}
use Rattle.bits.proofs.Xor.{xors, xor_assoc, xor_equal}
use Rattle.blocks.specs.Divide.{divisor, over_bits, reduced, bring_down, remainder, add_shifted, times, Multiple}

-- ---- the step over bits: how high the first number is makes no difference

module _ (step : ℕ → ℕ → ℕ) where
  more : (m n : ℕ) → n ≤ m → over_bits step (suc m) n ≡ over_bits step m n
  unfolding over_bits
  more zero zero h = refl
  more zero (suc n) h = absurd (not-suc-le-zero h)
  more (suc m) zero h = refl
  more (suc m) (suc n) h = ap (λ (x : ℕ). step x (suc n % 2)) (more m (suc n / 2) (half_le h))

  enough : (m n : ℕ) → n ≤ m → over_bits step m n ≡ over_bits step n n
  enough m n h = le_ind (λ (k : ℕ). over_bits step k n ≡ over_bits step n n) refl (λ k p e. more k n p ∙ e) m h

  over_bits-step : step 0 0 ≡ 0 → (n : ℕ) → over_bits step n n ≡ step (over_bits step (n / 2) (n / 2)) (n % 2)
  unfolding over_bits
  over_bits-step none zero = sym none
  over_bits-step none (suc n) = ap (λ (x : ℕ). step x (suc n % 2)) (enough n (suc n / 2) (half_le (le_refl (suc n))))

-- ---- one reduction

reduced_small : (r : ℕ) → r < 1024 → reduced r ≡ r
unfolding reduced
reduced_small r h = rw (lt-ltb r 1024 h)

reduced_large : (r : ℕ) → 1024 ≤ r → reduced r ≡ bit_xor r divisor
unfolding reduced
reduced_large r h = rw (le-ltb r 1024 h)

-- a number of eleven bits with the top one set loses it
top_off : (r : ℕ) → 1024 ≤ r → r < 2048 → bit_xor r divisor < 1024
top_off r h l =
    let t : r / 1024 ≡ 1 = omega arith in
    let e : bit_xor r divisor / 1024 ≡ 0 = xor_shr r divisor 10 ∙ ap (λ (x : ℕ). bit_xor x 1) t in omega arith

reduced-lt : (r : ℕ) → r < 2048 → reduced r < 1024
reduced-lt r l =
    ⊎_elim (λ h. rw (reduced_small r h) h) (λ h. rw (reduced_large r h) (top_off r h l)) (lt-or-le r 1024)

-- a term added on both sides makes no difference to the sum
xor_both : (a b c : ℕ) → bit_xor a b ≡ bit_xor (bit_xor a c) (bit_xor b c)
xor_both a b c = simp xors

xor-behind : (a b c : ℕ) → bit_xor (bit_xor a b) c ≡ bit_xor (bit_xor a c) b
xor-behind a b c = simp xors

-- bit 10 of a sum of two numbers of eleven bits
top-sum : (r s x y : ℕ) → r / 1024 ≡ x → s / 1024 ≡ y → bit_xor r s / 1024 ≡ bit_xor x y
top-sum r s x y p q = xor_shr r s 10 ∙ ap₂ bit_xor p q

-- the reduction of a sum is the sum of the reductions: by bit 10 of each
reduced-xor : (r s : ℕ) → r < 2048 → s < 2048 → reduced (bit_xor r s) ≡ bit_xor (reduced r) (reduced s)
reduced-xor r s p q =
    ⊎_elim (λ a. ⊎_elim (low-low a) (low-high a) (lt-or-le s 1024))
    (λ a. ⊎_elim (high-low a) (high-high a) (lt-or-le s 1024))
    (lt-or-le r 1024)
  where
    low-low : r < 1024 → s < 1024 → reduced (bit_xor r s) ≡ bit_xor (reduced r) (reduced s)
    low-low a b = rw (reduced_small r a, reduced_small s b, reduced_small (bit_xor r s) (xor_lt 10 r s a b))

    low-high : r < 1024 → 1024 ≤ s → reduced (bit_xor r s) ≡ bit_xor (reduced r) (reduced s)
    low-high a b =
        let t : bit_xor r s / 1024 ≡ 1 = top-sum r s 0 1 (omega arith) (omega arith) in
        let l : 1024 ≤ bit_xor r s = omega arith in
        rw (reduced_small r a, reduced_large s b, reduced_large (bit_xor r s) l) (xor_assoc r s divisor)

    high-low : 1024 ≤ r → s < 1024 → reduced (bit_xor r s) ≡ bit_xor (reduced r) (reduced s)
    high-low a b =
        let t : bit_xor r s / 1024 ≡ 1 = top-sum r s 1 0 (omega arith) (omega arith) in
        let l : 1024 ≤ bit_xor r s = omega arith in
        rw (reduced_large r a, reduced_small s b, reduced_large (bit_xor r s) l) (xor-behind r s divisor)

    high-high : 1024 ≤ r → 1024 ≤ s → reduced (bit_xor r s) ≡ bit_xor (reduced r) (reduced s)
    high-high a b =
        let t : bit_xor r s / 1024 ≡ 0 = top-sum r s 1 1 (omega arith) (omega arith) in
        let l : bit_xor r s < 1024 = omega arith in
        rw (reduced_large r a, reduced_large s b, reduced_small (bit_xor r s) l) (xor_both r s divisor)

-- ---- the remainder

remainder-step : (n : ℕ) → remainder n ≡ reduced (remainder (n / 2) * 2 + n % 2)
unfolding remainder reduced
remainder-step n = over_bits-step bring_down refl n

-- a bit put behind a number is brought down behind its remainder
pub remainder-behind : (n b : ℕ) → b < 2 → remainder (n * 2 + b) ≡ reduced (remainder n * 2 + b)
remainder-behind n b h =
    let p : (n * 2 + b) / 2 ≡ n = omega arith in let q : (n * 2 + b) % 2 ≡ b = omega arith in
    remainder-step (n * 2 + b) ∙ ap₂ (λ (x y : ℕ). reduced (remainder x * 2 + y)) p q

pub remainder-lt : (n : ℕ) → remainder n < 1024
unfolding remainder over_bits
remainder-lt =
    bin_ind (λ (n : ℕ). remainder n < 1024) (omega arith)
    (λ n before. rw (remainder-step n) (reduced-lt (remainder (n / 2) * 2 + n % 2)
    (omega (arith, mod-lt n {m = 2} (omega arith)))))

-- what is below 1024 is its own remainder
pub remainder_small : (n : ℕ) → n < 1024 → remainder n ≡ n
unfolding remainder over_bits
remainder_small =
    bin_ind (λ (n : ℕ). n < 1024 → remainder n ≡ n) (λ h. refl)
    (λ n before h. remainder-step n ∙ ap (λ (x : ℕ). reduced (x * 2 + n % 2)) (before (omega arith)) ∙ ap reduced
    (div-add-mod' n 2) ∙ reduced_small n h)

-- the remainder of a sum is the sum of the remainders
pub remainder-xor : (a b : ℕ) → remainder (bit_xor a b) ≡ bit_xor (remainder a) (remainder b)
unfolding remainder over_bits
remainder-xor =
    bin_ind (λ (a : ℕ). (b : ℕ) → remainder (bit_xor a b) ≡ bit_xor (remainder a) (remainder b)) (λ b. refl)
    (λ a before b.
    let ra : remainder (a / 2) < 1024 = remainder-lt (a / 2) in
    let rb : remainder (b / 2) < 1024 = remainder-lt (b / 2) in
    remainder-step (bit_xor a b)
    ∙ ap₂ (λ (x y : ℕ). reduced (remainder x * 2 + y)) (xor_shr a b 1) (xor_mod a b 1)
    ∙ ap (λ (x : ℕ). reduced (x * 2 + bit_xor (a % 2) (b % 2))) (before (b / 2))
    ∙ ap reduced (sym (xor_block 1 (remainder (a / 2)) (remainder (b / 2)) (a % 2) (b % 2) (mod-lt a (omega arith))
    (mod-lt b (omega arith))))
    ∙ reduced-xor (remainder (a / 2) * 2 + a % 2) (remainder (b / 2) * 2 + b % 2) (omega arith) (omega arith)
    ∙ sym (ap₂ bit_xor (remainder-step a) (remainder-step b)))

-- ---- the product

times-step : (q g : ℕ) → times q g ≡ bit_xor (times (q / 2) g * 2) (q % 2 * g)
unfolding times
times-step q g = over_bits-step (add_shifted g) (ap (bit_xor 0) (zero-mul g)) q

times-behind : (q b g : ℕ) → b < 2 → times (q * 2 + b) g ≡ bit_xor (times q g * 2) (b * g)
times-behind q b g h =
    let x : (q * 2 + b) / 2 ≡ q = omega arith in let y : (q * 2 + b) % 2 ≡ b = omega arith in
    times-step (q * 2 + b) g ∙ ap₂ (λ (m n : ℕ). bit_xor (times m g * 2) (n * g)) x y

-- ---- division with remainder

-- where a reduction is due the quotient's next bit is 1, else 0
next : (n : ℕ) → (q : ℕ) × (n / 2 ≡ bit_xor (times q divisor) (remainder (n / 2)))
    → (q : ℕ) × (n ≡ bit_xor (times q divisor) (remainder n))
next n (q, e) =
    ⊎_elim
    (λ h. (
      q * 2 + 0,
      moved ∙ ap₂ bit_xor (sym (times-behind q 0 divisor (omega arith) ∙ xor_zero_r (times q divisor * 2)))
          (sym (remainder-step n ∙ reduced_small rest h)),
    ))
    (λ h. (
      q * 2 + 1,
      moved ∙ xor_both (times q divisor * 2) rest divisor
          ∙ ap₂ bit_xor (sym (times-behind q 1 divisor (omega arith))) (sym (remainder-step n ∙ reduced_large rest h)),
    ))
    (lt-or-le rest 1024)
  where
    rest : ℕ
    rest = remainder (n / 2) * 2 + n % 2

    moved : n ≡ bit_xor (times q divisor * 2) rest
    moved =
        sym (div-add-mod' n 2) ∙ ap (λ (x : ℕ). x * 2 + n % 2) e
        ∙ sym (xor_block 1 (times q divisor) (remainder (n / 2)) 0 (n % 2) (omega arith) (mod-lt n (omega arith)))
        ∙ ap (λ (x : ℕ). bit_xor x rest) (add-zero (times q divisor * 2))

-- every number is a multiple of the divisor plus its remainder
pub division : (n : ℕ) → (q : ℕ) × (n ≡ bit_xor (times q divisor) (remainder n))
unfolding times remainder over_bits
division = bin_ind (λ (n : ℕ). (q : ℕ) × (n ≡ bit_xor (times q divisor) (remainder n))) (0, refl) next

-- twice what leaves nothing leaves nothing
remainder_twice : (n : ℕ) → remainder n ≡ 0 → remainder (n * 2) ≡ 0
unfolding reduced
remainder_twice n z =
    ap remainder (sym (add-zero (n * 2))) ∙ remainder-behind n 0 (omega arith) ∙ ap (λ (x : ℕ). reduced (x * 2 + 0)) z

remainder-times : (q : ℕ) → remainder (times q divisor) ≡ 0
unfolding times remainder over_bits reduced
remainder-times =
    bin_ind (λ (q : ℕ). remainder (times q divisor) ≡ 0) refl
    (λ q before.
    ap remainder (times-step q divisor) ∙ remainder-xor (times (q / 2) divisor * 2) (q % 2 * divisor)
    ∙ ap₂ bit_xor (remainder_twice (times (q / 2) divisor) before) (once (q % 2) (mod-lt q (omega arith))))
  where
    once : (b : ℕ) → b < 2 → remainder (b * divisor) ≡ 0
    once zero h = refl
    once (suc zero) h = refl
    once (suc (suc b)) h = absurd (omega arith)

-- a multiple leaves nothing
pub zero_of_multiple : (n : ℕ) → Multiple n → remainder n ≡ 0
zero_of_multiple n m = ap remainder m.1 ∙ remainder-times m.0

-- what leaves nothing is a multiple
pub multiple_of-zero : (n : ℕ) → remainder n ≡ 0 → Multiple n
multiple_of-zero n z = let d = division n in (
  d.0,
  d.1 ∙ ap (bit_xor (times d.0 divisor)) z ∙ xor_zero_r
      (times d.0 divisor),
)

-- no other number below 1024 would do
pub division_only : (n q r : ℕ) → n ≡ bit_xor (times q divisor) r → r < 1024 → r ≡ remainder n
division_only n q r e h =
    sym (ap remainder e ∙ remainder-xor (times q divisor) r
    ∙ ap₂ bit_xor (zero_of_multiple (times q divisor) (q, refl)) (remainder_small r h) ∙ xor_zero_l r)

-- ---- the divisor is odd: a factor x can be taken out

twice-zero : (n : ℕ) → remainder (n * 2) ≡ 0 → remainder n ≡ 0
twice-zero n z =
    ⊎_elim (λ h. let e : remainder n * 2 + 0 ≡ 0 = sym (reduced_small (remainder n * 2 + 0) h) ∙ none in omega arith)
    (λ h. let e : remainder n * 2 + 0 ≡ divisor = xor_equal (remainder n * 2 + 0) divisor
    (sym (reduced_large (remainder n * 2 + 0) h) ∙ none) in
    omega arith)
    (lt-or-le (remainder n * 2 + 0) 1024)
  where
    none : reduced (remainder n * 2 + 0) ≡ 0
    none = sym (remainder-behind n 0 (omega arith)) ∙ ap remainder (add-zero (n * 2)) ∙ z

pub shifted-zero : (n k : ℕ) → remainder (n * 2 ^ k) ≡ 0 → remainder n ≡ 0
shifted-zero n zero z = ap remainder (sym (mul-one n)) ∙ z
shifted-zero n (suc k) z =
    shifted-zero n k (twice-zero (n * 2 ^ k) (ap remainder (mul_assoc n (2 ^ k) 2 ∙ ap (λ (x : ℕ). n * x)
    (sym (pow-suc 2 k))) ∙ z))
