-- The damage law: a block valid as a kind, then damaged, is not valid as that kind. The turned bits spell the sum of
-- the two blocks. Within ten neighbours they are a number below 1024 times a power of x, of which the odd divisor
-- leaves something; two bits are x^d + 1 times such a power, and no d below 26 makes that a multiple, which is tried
-- out once.
use Prim.Native.Nat.{ℕ, zero, suc, ◌+◌, ◌*◌, ◌-◌, ◌^◌, ◌<◌, ◌≤◌}
use mathlib.Core.Path.{◌≡◌, refl, sym, ap, ap₂, ◌∙◌}
use mathlib.Core.Bool.{Bool, true, false, not, false≢true}
use mathlib.Core.Logic.{◌⊎◌, inl, inr, ⊎_elim}
use native.Mathlib.Nat.{add-zero, zero-add, zero-mul, one-mul, add-mul, pow-suc}
use native.Mathlib.Omega.{arith}
use lib.Dec.{eqb}
use borrow.Author.Tests.{eq-eqb}
use lib.Bits.{bit_xor, xor_self, xor_lt}
use lib.Pow.{pow-add}
use Rattle.bits.specs.Spell.{spell, Bits}
use Rattle.bits.proofs.Computed.{all_below, below_at}
use Rattle.bits.proofs.Order.{lt-or-le}
use Rattle.bits.proofs.Spelling.{spell_lt, spell_add, spell-zeros, zeros-spelled, spell-xor}
use Rattle.blocks.specs.Divide.{over_bits, reduced, remainder}
use Rattle.blocks.specs.Block.{offset_of, Valid}
use Rattle.blocks.specs.Damage.{block_bits, neighbours, anywhere, turned, Damage, within, two}
use Rattle.blocks.specs.declared.Kind.{Kind}
use Rattle.blocks.proofs.Division.{remainder-xor, remainder_small, shifted-zero}
use Rattle.blocks.proofs.Validity.{valid-left}

-- ---- two bits

-- x^(d + 1) + 1 is no multiple of the divisor
apart : ℕ → Bool
apart d = not (eqb (remainder (2 ^ suc d + 1)) 0)

-- no two places of a block have such a distance
all_apart : all_below apart (block_bits - 1) ≡ true
unfolding all_below apart remainder over_bits reduced
all_apart = refl

two_apart : (i j : ℕ) → i < j → j < block_bits → remainder (2 ^ j + 2 ^ i) ≡ 0 → ⊥
unfolding apart
two_apart i j l h z =
    let d : ℕ = j - suc i in
    let e : (2 ^ suc d + 1) * 2 ^ i ≡ 2 ^ j + 2 ^ i =
    add-mul (2 ^ suc d) 1 (2 ^ i) ∙ ap₂ (λ (x y : ℕ). x + y)
    (sym (pow-add 2 (suc d) i) ∙ ap (λ (n : ℕ). 2 ^ n) (omega arith)) (one-mul (2 ^ i)) in
    let none : remainder (2 ^ suc d + 1) ≡ 0 = shifted-zero (2 ^ suc d + 1) i (ap remainder e ∙ z) in
    let test : apart d ≡ true = below_at apart (block_bits - 1) all_apart d (omega arith) in
    let same : false ≡ true = sym (ap not (eq-eqb (remainder (2 ^ suc d + 1)) 0 none)) ∙ test in false≢true same

-- ---- what n bits of a source spell, by how many of them are 1

module _ (d : ℕ → ℕ) (bits : Bits d) where
  unfoldable ones : ℕ → ℕ
  ones zero = 0
  ones (suc n) = ones n + d n

  bit_is : (n : ℕ) → (d n ≡ 0) ⊎ (d n ≡ 1)
  bit_is n = ⊎_elim (λ l. inl (omega arith)) (λ l. inr (omega (arith, bits n))) (lt-or-le (d n) 1)

  none-set : (n : ℕ) → ones n ≡ 0 → spell d 0 n ≡ 0
  unfolding ones spell
  none-set zero e = refl
  none-set (suc n) e = rw (none-set n (omega arith), zero-add n) (omega arith)

  one_set : (n : ℕ) → ones n ≡ 1 → (i : ℕ) × (i < n) × (spell d 0 n ≡ 2 ^ i)
  unfolding ones spell
  one_set zero e = absurd (omega arith)
  one_set (suc n) e = ⊎_elim (λ z. unset z (one_set n (omega arith))) set (bit_is n)
    where
      unset : d n ≡ 0 → (i : ℕ) × (i < n) × (spell d 0 n ≡ 2 ^ i) → (i : ℕ) × (i < suc n) × (spell d 0 (suc n) ≡ 2 ^ i)
      unset z (i, l, s) = (suc i, omega arith, rw (zero-add n, z, s, pow-suc 2 i) (add-zero (2 ^ i * 2)))

      set : d n ≡ 1 → (i : ℕ) × (i < suc n) × (spell d 0 (suc n) ≡ 2 ^ i)
      set o = (0, omega arith, rw (zero-add n, o, none-set n (omega arith)))

  two-set : (n : ℕ) → ones n ≡ anywhere → (i j : ℕ) × (i < j) × (j < n) × (spell d 0 n ≡ 2 ^ j + 2 ^ i)
  unfolding ones spell
  two-set zero e = absurd (omega arith)
  two-set (suc n) e = ⊎_elim (λ z. unset z (two-set n (omega arith))) (λ o. set o (one_set n (omega arith))) (bit_is n)
    where
      unset : d n ≡ 0 → (i j : ℕ) × (i < j) × (j < n) × (spell d 0 n ≡ 2 ^ j + 2 ^ i)
          → (i j : ℕ) × (i < j) × (j < suc n) × (spell d 0 (suc n) ≡ 2 ^ j + 2 ^ i)
      unset z (i, j, l, h, s) =
          (suc i, suc j, omega arith, omega arith, rw (zero-add n, z, s, pow-suc 2 i, pow-suc 2 j) (omega arith))

      set : d n ≡ 1 → (i : ℕ) × (i < n) × (spell d 0 n ≡ 2 ^ i)
          → (i j : ℕ) × (i < j) × (j < suc n) × (spell d 0 (suc n) ≡ 2 ^ j + 2 ^ i)
      set o (i, l, s) = (0, suc i, omega arith, omega arith, rw (zero-add n, o, s, pow-suc 2 i))

  no_ones : (n : ℕ) → ((j : ℕ) → j < n → d j ≡ 0) → ones n ≡ 0
  unfolding ones
  no_ones zero off = refl
  no_ones (suc n) off = rw (no_ones n (λ j l. off j (omega arith)), off n (omega arith))

  -- ---- bits within neighbours

  -- bits that are 1 only from place a on and before a + m spell a number of m bits, moved up
  only-within : (a m c : ℕ) → ((j : ℕ) → j < a + m + c → d j ≡ 1 → (a ≤ j) × (j < a + m))
      → spell d 0 (a + m + c) ≡ spell d a m * 2 ^ c
  only-within a m c inside =
      let off : (j : ℕ) → j < a + m + c → (a ≤ j → j < a + m → ⊥) → d j ≡ 0 =
      λ j l out. ⊎_elim (λ z. z) (λ o. absurd (out (inside j l o).0 (inside j l o).1)) (bit_is j) in
      let before : spell d 0 a ≡ 0 = spell-zeros d 0 a (λ j _ l. off j (omega arith) (λ p q. omega arith)) in
      let behind : spell d (0 + (a + m)) c ≡ 0 = spell-zeros d (0 + (a + m)) c
      (λ j p l. off j (omega arith) (λ x y. omega arith)) in
      rw (spell_add d bits 0 (a + m) c, behind, spell_add d bits 0 a m, before, zero-add a, zero-mul (2 ^ m))
      (omega arith)

-- ---- the law

module _ (k : Kind) (f g : ℕ → ℕ) (bf : Bits f) (bg : Bits g) where
  -- the bit at place j is turned
  abbrev turn : ℕ → ℕ
  turn j = bit_xor (f j) (g j)

  turn-bits : Bits turn
  turn-bits j = xor_lt 1 (f j) (g j) (bf j) (bg j)

  turned_ones : (n : ℕ) → turned f g n ≡ ones turn turn-bits n
  unfolding turned ones
  turned_ones zero = refl
  turned_ones (suc n) = rw (turned_ones n)

  -- two blocks that are valid as the same kind differ by a multiple
  multiple-between : Valid k (spell f 0 block_bits) → Valid k (spell g 0 block_bits) → remainder
      (spell turn 0 block_bits) ≡ 0
  multiple-between v w =
      ap remainder (sym (spell-xor f g bf bg 0 block_bits)) ∙ remainder-xor (spell f 0 block_bits) (spell g 0 block_bits)
      ∙ ap₂ bit_xor (valid-left k (spell f 0 block_bits) v) (valid-left k (spell g 0 block_bits) w) ∙ xor_self (offset_of k)

  -- a multiple whose bits stand within ten neighbouring places has none
  within_none : (a c : ℕ) → a + neighbours + c ≡ block_bits
      → ((j : ℕ) → j < a + neighbours + c → turn j ≡ 1 → (a ≤ j) × (j < a + neighbours))
      → remainder (spell turn 0 block_bits) ≡ 0 → turned f g block_bits ≡ 0
  within_none a c e inside z =
      let moved : spell turn 0 block_bits ≡ spell turn a neighbours * 2 ^ c =
      ap (spell turn 0) (sym e) ∙ only-within turn turn-bits a neighbours c inside in
      let few : spell turn a neighbours < 2 ^ neighbours = spell_lt turn turn-bits a neighbours in
      let none : spell turn a neighbours ≡ 0 =
      sym (remainder_small (spell turn a neighbours) (omega arith))
      ∙ shifted-zero (spell turn a neighbours) c (ap remainder (sym moved) ∙ z) in
      turned_ones block_bits
      ∙ no_ones turn turn-bits block_bits
      (λ j l. zeros-spelled turn 0 block_bits (moved ∙ ap (λ (x : ℕ). x * 2 ^ c) none ∙ zero-mul (2 ^ c)) j
      (omega arith) (omega arith))

  turned-differs : (j : ℕ) → turn j ≡ 1 → f j ≡ g j → ⊥
  turned-differs j o e =
      let z : turn j ≡ 0 = ap (λ (x : ℕ). bit_xor x (g j)) e ∙ xor_self (g j) in omega arith

  -- a block valid as a kind, then damaged, is not valid as that kind
  pub damage_shows : Damage f g → Valid k (spell f 0 block_bits) → Valid k (spell g 0 block_bits) → ⊥
  damage_shows (within a some inside) v w = ⊎_elim late early (lt-or-le (block_bits - neighbours) a)
    where
      none : remainder (spell turn 0 block_bits) ≡ 0
      none = multiple-between v w

      late : block_bits - neighbours < a → ⊥
      late h =
          let e : turned f g block_bits ≡ 0 =
          within_none (block_bits - neighbours) 0 (omega arith)
          (λ j l o. let p : (a ≤ j) × (j < a + neighbours) = inside j (omega arith) (turned-differs j o) in
          (omega arith, omega arith)) none in
          omega arith

      early : a ≤ block_bits - neighbours → ⊥
      early h =
          let e : turned f g block_bits ≡ 0 =
          within_none a (block_bits - neighbours - a) (omega arith)
          (λ j l o. inside j (omega arith) (turned-differs j o)) none in
          omega arith
  damage_shows (two e) v w =
      let p = two-set turn turn-bits block_bits (sym (turned_ones block_bits) ∙ e) in
      two_apart p.0 p.1 p.2 p.3 (ap remainder (sym p.4) ∙ multiple-between v w)
