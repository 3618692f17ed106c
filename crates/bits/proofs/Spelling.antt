-- Laws of the number that bits spell: its bound, its parts, a register that takes in one bit, a history that grows.
-- All are inductions on the number of bits; whoever cites them never sees how the number is put together.
use Prim.Native.Nat.{ℕ, zero, suc, ◌+◌, ◌*◌, ◌/◌, ◌%◌, ◌^◌, ◌<◌, ◌≤◌}
use mathlib.Core.Path.{◌≡◌, refl, sym, ap, ◌∙◌}
use mathlib.Core.List.{List, [], ◌∷◌, ◌++◌}
use mathlib.Core.Logic.{⊎_elim}
use native.Mathlib.Nat.{eq-or-lt_of_le, add-zero, add-suc, add_assoc, mul-one, mul_assoc, pow-suc}
use native.Mathlib.Numerals.{one-add}
use native.Mathlib.Omega.{arith}
use lib.ListN.{length, get_or-append}
use lib.Pow.{high, low}
use lib.Bits.{bit_xor, xor_block}
use Rattle.bits.specs.Spell.{spell, Bits, listed}

-- it depends on the bits that it reads alone
pub spell_cong : (f g : ℕ → ℕ) (i n : ℕ) → ((j : ℕ) → i ≤ j → j < i + n → f j ≡ g j) → spell f i n ≡ spell g i n
unfolding spell
spell_cong f g i zero same = refl
spell_cong f g i (suc n) same =
    rw (spell_cong f g i n (λ j p q. same j p (omega arith)), same (i + n) (omega arith) (omega arith))

-- bits read from i on are the bits of the source moved by i
pub spell-moved : (f : ℕ → ℕ) (k i n : ℕ) → spell (λ j. f (k + j)) i n ≡ spell f (k + i) n
unfolding spell
spell-moved f k i zero = refl
spell-moved f k i (suc n) = rw (spell-moved f k i n, add_assoc k i n)

pub spell_from : (f : ℕ → ℕ) (k n : ℕ) → spell f k n ≡ spell (λ j. f (k + j)) 0 n
spell_from f k n = sym (spell-moved f k 0 n ∙ ap (λ (m : ℕ). spell f m n) (add-zero k))

-- bits that are all 0 spell 0
pub spell-zeros : (f : ℕ → ℕ) (i n : ℕ) → ((j : ℕ) → i ≤ j → j < i + n → f j ≡ 0) → spell f i n ≡ 0
unfolding spell
spell-zeros f i zero none = refl
spell-zeros f i (suc n) none =
    rw (spell-zeros f i n (λ j p q. none j p (omega arith)), none (i + n) (omega arith) (omega arith))

-- bits that spell 0 are all 0
pub zeros-spelled : (f : ℕ → ℕ) (i n : ℕ) → spell f i n ≡ 0 → (j : ℕ) → i ≤ j → j < i + n → f j ≡ 0
unfolding spell
zeros-spelled f i zero z j p q = absurd (omega arith)
zeros-spelled f i (suc n) z j p q =
    ⊎_elim (λ e. rw e (omega arith)) (λ l. zeros-spelled f i n (omega arith) j p l)
    (eq-or-lt_of_le {n = j} {m = i + n} (omega arith))

-- the bitwise sum of two spelled numbers is spelled by the sums of their bits
pub spell-xor : (f g : ℕ → ℕ) → Bits f → Bits g → (i n : ℕ)
    → bit_xor (spell f i n) (spell g i n) ≡ spell (λ j. bit_xor (f j) (g j)) i n
unfolding spell
spell-xor f g bf bg i zero = refl
spell-xor f g bf bg i (suc n) =
    xor_block 1 (spell f i n) (spell g i n) (f (i + n)) (g (i + n)) (bf (i + n)) (bg (i + n))
    ∙ ap (λ (x : ℕ). x * 2 + bit_xor (f (i + n)) (g (i + n))) (spell-xor f g bf bg i n)

module _ (f : ℕ → ℕ) (bits : Bits f) where
  -- n bits spell a number below 2 ^ n
  pub spell_lt : (i n : ℕ) → spell f i n < 2 ^ n
  unfolding spell
  spell_lt i zero = omega arith
  spell_lt i (suc n) = rw (pow-suc 2 n) (omega (arith, spell_lt i n, bits (i + n)))

  -- m bits and then n: the first stand n places higher
  pub spell_add : (i m n : ℕ) → spell f i (m + n) ≡ spell f i m * 2 ^ n + spell f (i + m) n
  unfolding spell
  spell_add i m zero = rw (add-zero m) (sym (add-zero _ ∙ mul-one _))
  spell_add i m (suc n) =
      rw (add-suc m n, spell_add i m n, pow-suc 2 n, add_assoc i m n, ← mul_assoc (spell f i m) (2 ^ n) 2) (omega arith)

  -- n bits within more of them: what stands behind is cut off, then what stands before
  pub spell_part : (i p n q : ℕ) → spell f (i + p) n ≡ spell f i (p + n + q) / 2 ^ q % 2 ^ n
  spell_part i p n q =
      rw (
        spell_add i (p + n) q,
        high (spell f i (p + n)) q (spell_lt (i + (p + n)) q),
        spell_add i p n,
        low (spell f i p) n (spell_lt (i + p) n),
      )

  -- a register of n bits that takes in one bit
  pub spell_slide : (i n : ℕ) → spell f (i + 1) n ≡ (spell f i n * 2 + f (i + n)) % 2 ^ n
  unfolding spell
  spell_slide i n =
      sym (ap (λ (m : ℕ). spell f i m % 2 ^ n) (sym (one-add n)) ∙ rw (spell_add i 1 n)
      (low (spell f i 1) n (spell_lt (i + 1) n)))

-- a history that grows at its end: what was spelled stays
pub spell-more : (bs : List ℕ) (b i n : ℕ) → i + n ≤ length bs → spell (listed (bs ++ b ∷ [])) i n ≡ spell
    (listed bs) i n
spell-more bs b i n h = spell_cong _ _ i n (λ j _ l. get_or-append bs (b ∷ []) 0 j (omega arith))
