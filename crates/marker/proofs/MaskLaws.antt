-- A mask of addresses: the trailing zeros of its complement are the lowest address that it has not, and a mask with an
-- address more has that address and those that it had.
use Prim.Native.Nat.{ℕ, zero, suc, ◌+◌, ◌*◌, ◌-◌, ◌/◌, ◌%◌, ◌^◌, ◌<◌, ◌≤◌}
use mathlib.Core.Path.{◌≡◌, refl, sym, ap, ◌∙◌}
use mathlib.Core.List.{List}
use mathlib.Core.Bool.{Bool, true, false, not, cond, ◌||◌}
use mathlib.Core.Logic.{⊎_elim}
use native.Mathlib.Nat.{eq-or-lt_of_le, div-eq_of_lt, one-mul, pow-suc}
use native.Mathlib.Numerals.{one-add}
use native.Mathlib.Omega.{arith}
use lib.Dec.{eqb}
use lib.Pow.{pow-lt, pow-add, shl_exact, shl-shr, shr-shr}
use lib.Bits.{bit_or, or_shr, or_mod}
use lib.Count.{count_trailing_zeros, under}
use borrow.Author.Tests.{eq-eqb, ne_eqb}
use Rattle.bits.proofs.Order.{lt-or-le}
use Rattle.keys.specs.Wanted.{addresses_of}
use Rattle.keys.proofs.WantedLaws.{addresses_most}
use Rattle.marker.specs.declared.Verdict.TheVariants.{Passed, Missing}
use Rattle.marker.specs.Steps.{has, mask_bits, missing_in}
use Rattle.marker.proofs.FirstLaws.{Spot, first_at, first_none}

-- ---- the lowest bit that is 0

-- the bits of m below t are 1, and bit t, if there is one, is 0
pub record Lowest (k m t : ℕ) : Type 0 where
  pub ones : (b : ℕ) → b < t → m / 2 ^ b % 2 ≡ 1
  pub none : t < k → m / 2 ^ t % 2 ≡ 0

bit_up : (m b : ℕ) → m / 2 ^ suc b ≡ m / 2 / 2 ^ b
bit_up m b = ap (λ (e : ℕ). m / 2 ^ e) (sym (one-add b)) ∙ sym (shr-shr m 1 b)

pub lowest : (k m n : ℕ) → m + n + 1 ≡ 2 ^ k → Lowest k m (count_trailing_zeros k n)
unfolding count_trailing_zeros
lowest zero m n e = record { ones = λ b l. absurd (omega arith); none = λ l. absurd (omega arith) }
lowest (suc k) m n e = told (n % 2) refl (lowest k (m / 2) (n / 2) half)
  where
    doubled : m + n + 1 ≡ 2 ^ k * 2
    doubled = e ∙ pow-suc 2 k

    half : m / 2 + n / 2 + 1 ≡ 2 ^ k
    half = omega (arith, doubled)

    told : (r : ℕ) → n % 2 ≡ r → Lowest k (m / 2) (count_trailing_zeros k (n / 2))
        → Lowest (suc k) m (under r (count_trailing_zeros k (n / 2)))
    told zero z rest = record {
      ones = odd;
      none = λ l. ap (λ (x : ℕ). x % 2) (bit_up m (count_trailing_zeros k (n / 2)))
          ∙ rest.none (omega arith);
    }
      where
        odd : (b : ℕ) → b < suc (count_trailing_zeros k (n / 2)) → m / 2 ^ b % 2 ≡ 1
        odd zero l = omega (arith, doubled)
        odd (suc b) l = ap (λ (x : ℕ). x % 2) (bit_up m b) ∙ rest.ones b (omega arith)
    told (suc r) z rest = record { ones = λ b l. absurd (omega arith); none = λ l. omega (arith, doubled) }

-- ---- the lowest address that a mask has not

has_one : (mask a : ℕ) → mask / 2 ^ a % 2 ≡ 1 → not (has mask a) ≡ false
unfolding has
has_one mask a e = rw (eq-eqb (mask / 2 ^ a % 2) 1 e)

has-zero : (mask a : ℕ) → mask / 2 ^ a % 2 ≡ 0 → not (has mask a) ≡ true
unfolding has
has-zero mask a e = rw e

module _ (k : List ℕ) (mask t n : ℕ) (fits : mask < 2 ^ mask_bits)
    (told : t ≡ count_trailing_zeros mask_bits (2 ^ mask_bits - 1 - mask)) (count : n ≡ addresses_of k) where
  lowest-told : Lowest mask_bits mask t
  lowest-told = rw told (lowest mask_bits mask (2 ^ mask_bits - 1 - mask) (omega arith))

  pub missing_lowest : t < n → Missing t ≡ missing_in k mask
  unfolding missing_in
  missing_lowest l =
      let most : n ≤ 20 = rw count (addresses_most k) in
      let spot : Spot (λ a. not (has mask a)) 0 n t =
      record {
        from = omega arith;
        below = omega arith;
        here = has-zero mask t (lowest-told.none (omega arith));
        before = λ q a b. has_one mask q (lowest-told.ones q b);
      } in
      rw (← count, first_at (λ a. not (has mask a)) 0 n t spot)

  pub missing_none : n ≤ t → Passed ≡ missing_in k mask
  unfolding missing_in
  missing_none l =
      rw (← count, first_none (λ a. not (has mask a)) 0 n (λ q a b. has_one mask q (lowest-told.ones q (omega arith))))

-- ---- a mask with an address more

-- bit b of the power a
power-bit : (a b : ℕ) → 2 ^ a / 2 ^ b % 2 ≡ cond (eqb a b) 1 0
power-bit a b = ⊎_elim low (λ l. ⊎_elim equal high (eq-or-lt_of_le l)) (lt-or-le a b)
  where
    low : a < b → 2 ^ a / 2 ^ b % 2 ≡ cond (eqb a b) 1 0
    low l = rw (div-eq_of_lt (pow-lt l), ne_eqb a b (λ e. omega arith))

    equal : b ≡ a → 2 ^ a / 2 ^ b % 2 ≡ cond (eqb a b) 1 0
    equal e = rw (eq-eqb a b (sym e), e) (ap (λ (x : ℕ). x % 2) (rw (one-mul (2 ^ a)) at (shl-shr 1 a)))

    high : b < a → 2 ^ a / 2 ^ b % 2 ≡ cond (eqb a b) 1 0
    high l =
        let d : ℕ = a - suc b in
        let s : a ≡ suc d + b = omega arith in
        rw (ne_eqb a b (λ e. omega arith), s, pow-add 2 (suc d) b, shl-shr (2 ^ suc d) b, pow-suc 2 d) (omega arith)

or-bits : (x y : ℕ) → x < 2 → (b : Bool) → y ≡ cond b 1 0 → eqb (bit_or x y) 1 ≡ (eqb x 1 || b)
or-bits zero y l true e = rw e
or-bits zero y l false e = rw e
or-bits (suc zero) y l true e = rw e
or-bits (suc zero) y l false e = rw e
or-bits (suc (suc x)) y l b e = absurd (omega arith)

pub has_more : (mask a b : ℕ) → has (bit_or mask (2 ^ a)) b ≡ (has mask b || eqb a b)
unfolding has
has_more mask a b =
    rw (or_shr mask (2 ^ a) b, or_mod (mask / 2 ^ b) (2 ^ a / 2 ^ b) 1)
    (or-bits (mask / 2 ^ b % 2) (2 ^ a / 2 ^ b % 2) (omega arith) (eqb a b) (power-bit a b))

-- as the code makes it
pub has-shifted : (mask a : ℕ) → a < mask_bits → (b : ℕ) → b < mask_bits
    → has (bit_or mask (1 * 2 ^ a % 2 ^ mask_bits)) b ≡ (has mask b || eqb a b)
has-shifted mask a l b m =
    rw (shl_exact {a = 1} 1 a mask_bits (omega arith) (omega arith), one-mul (2 ^ a)) (has_more mask a b)
