-- The sixteen rows agree with the division: shown once over the table, which is compared with computed remainders.
-- Adding up the rows of a word's bits, bit 15 first, is then the division of word × x^10, one bit more at each row.
use Prim.Native.Nat.{ℕ, zero, suc, ◌+◌, ◌*◌, ◌-◌, ◌/◌, ◌%◌, ◌^◌, ◌<◌}
use mathlib.Core.Path.{◌≡◌, sym, ap, ◌∙◌}
use mathlib.Core.List.{List, [], ◌∷◌}
use native.Mathlib.Nat.{mod-lt, pow-suc, mul_assoc, mul_comm, one-mul, add-mul, suc-add}
use native.Mathlib.Numerals.{add-one}
use native.Mathlib.Omega.{arith}
use lib.ListN.{get_or}
use lib.Bits.{bit_xor, xor_shifted}
use lib.Pow.{shr-shr, pow-lt, split}
use Rattle.blocks.specs.Divide.{remainder}
use Rattle.blocks.proofs.Division.{remainder-xor, remainder_small}

-- what x^10 times each bit of an n-bit word leaves, the highest bit first
unfoldable pub rows_of : ℕ → List ℕ
rows_of zero = []
rows_of (suc n) = remainder (2 ^ (n + 10)) ∷ rows_of n

-- row i of n belongs to bit n - 1 - i
pub row_at : (n i : ℕ) → i < n → get_or (rows_of n) i 0 ≡ remainder (2 ^ (n - suc i + 10))
unfolding rows_of
row_at zero i h = absurd (omega arith)
row_at (suc n) zero h = let e : suc n - 1 ≡ n = omega arith in rw e
row_at (suc n) (suc i) h = let e : suc n - suc (suc i) ≡ n - suc i = omega arith in rw e (row_at n i (omega arith))

-- the bits of w from bit k on, at their places, times x^10
abbrev pub upper : ℕ → ℕ → ℕ
upper w k = w / 2 ^ k * 2 ^ (k + 10)

-- without bit k: what stands above it, twice
upper_above : (w k : ℕ) → upper w (suc k) ≡ w / 2 ^ k / 2 * 2 * 2 ^ (k + 10)
upper_above w k =
    let h : w / 2 ^ suc k ≡ w / 2 ^ k / 2 = ap (λ (n : ℕ). w / 2 ^ n) (sym (add-one k)) ∙ sym (shr-shr w k 1) in
    let p : 2 ^ (suc k + 10) ≡ 2 * 2 ^ (k + 10) = ap (λ (n : ℕ). 2 ^ n) (suc-add k 10) ∙ pow-suc 2 (k + 10)
    ∙ mul_comm (2 ^ (k + 10)) 2 in
    rw (h, p) (sym (mul_assoc (w / 2 ^ k / 2) 2 (2 ^ (k + 10))))

-- one bit more: it is 0 and nothing is added
pub upper_unset : (w k : ℕ) → w / 2 ^ k % 2 ≡ 0 → upper w (suc k) ≡ upper w k
upper_unset w k z =
    let e : w / 2 ^ k / 2 * 2 ≡ w / 2 ^ k = omega arith in upper_above w k ∙ ap (λ (y : ℕ). y * 2 ^ (k + 10)) e

-- one bit more: it is 1 and its place is added
pub upper-set : (w k : ℕ) → w / 2 ^ k % 2 ≡ 1 → bit_xor (upper w (suc k)) (2 ^ (k + 10)) ≡ upper w k
upper-set w k o =
    let e : w / 2 ^ k / 2 * 2 + 1 ≡ w / 2 ^ k = omega arith in
    xor_shifted (w / 2 ^ suc k) (suc k + 10) (2 ^ (k + 10)) (pow-lt {i = k + 10} {j = suc k + 10} (omega arith))
    ∙ ap (λ (x : ℕ). x + 2 ^ (k + 10)) (upper_above w k)
    ∙ ap (λ (x : ℕ). w / 2 ^ k / 2 * 2 * 2 ^ (k + 10) + x) (sym (one-mul (2 ^ (k + 10))))
    ∙ sym (add-mul (w / 2 ^ k / 2 * 2) 1 (2 ^ (k + 10))) ∙ ap (λ (y : ℕ). y * 2 ^ (k + 10)) e

-- row i of sixteen: where bit 15 - i is 0 the sum of the rows stays
pub rows_unset : (w i sum : ℕ) → i < 16 → w / 2 ^ (15 - i) % 2 ≡ 0 → sum ≡ remainder (upper w (16 - i))
    → sum ≡ remainder (upper w (16 - (i + 1)))
rows_unset w i sum h z e =
    let p : 16 - i ≡ suc (15 - i) = omega arith in let q : 16 - (i + 1) ≡ 15 - i = omega arith in
    rw (e, p, q) (ap remainder (upper_unset w (15 - i) z))

-- and where it is 1 the row is added
pub rows-set : (w i sum : ℕ) → i < 16 → w / 2 ^ (15 - i) % 2 ≡ 1 → sum ≡ remainder (upper w (16 - i))
    → bit_xor sum (get_or (rows_of 16) i 0) ≡ remainder (upper w (16 - (i + 1)))
rows-set w i sum h o e =
    let p : 16 - i ≡ suc (15 - i) = omega arith in let q : 16 - (i + 1) ≡ 15 - i = omega arith in
    let r : 16 - suc i ≡ 15 - i = omega arith in
    rw (e, row_at 16 i h, p, q, r)
    (sym (remainder-xor (upper w (suc (15 - i))) (2 ^ (15 - i + 10))) ∙ ap remainder (upper-set w (15 - i) o))

-- the lowest ten bits and the word above them, divided apart
pub remainder-word : (n : ℕ) → bit_xor (remainder (n / 1024 * 1024)) (n % 1024) ≡ remainder n
remainder-word n =
    let l : n % 1024 < 1024 = mod-lt n (omega arith) in
    ap (bit_xor (remainder (n / 1024 * 1024))) (sym (remainder_small (n % 1024) l))
    ∙ sym (remainder-xor (n / 1024 * 1024) (n % 1024)) ∙ ap remainder
    (xor_shifted (n / 1024) 10 (n % 1024) l ∙ split n 10)
