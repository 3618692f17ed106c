-- The letters of a word are the bytes of its number from the first that is not 0 on, or the last alone.
use Prim.Native.Nat.{ℕ, zero, suc, ◌+◌, ◌-◌, ◌*◌, ◌/◌, ◌%◌, ◌^◌, ◌<◌, ◌≤◌}
use mathlib.Core.Path.{◌≡◌, refl, sym, ap, ap₂, ◌∙◌}
use mathlib.Core.List.{List, [], ◌∷◌, ◌++◌}
use native.Mathlib.Omega.{arith}
use native.Mathlib.Nat.{pow-suc, pow-le-pow_right, one-le-pow, div-div-eq-div-mul}
use lib.ListN.{drop}
use Rattle.std.specs.Prelude.{min}
use Rattle.std.specs.Int.{byte_at, bytes_high_first}
use Rattle.std.specs.Int.Count.{count_leading_zeros}
use Rattle.std.proofs.lemmas.Nat.{pow-add, leading_length}
use Rattle.letters.specs.Letters.{letters_of}
use Rattle.letters.proofs.Digits.{digits_small, digits_large}

-- a byte of a number is the byte before it of what stands before the number's last
byte_before : (k n : ℕ) → byte_at (suc k) n ≡ byte_at k (n / 256)
byte_before zero n = refl
byte_before (suc k) n =
    ap (λ (q : ℕ). q % 256)
    (ap (λ (p : ℕ). n / p) (pow-suc 256 (suc k) ∙ omega arith) ∙ sym (div-div-eq-div-mul n 256 (256 ^ suc k)))

bytes_last : (k n : ℕ) → bytes_high_first (suc k) n ≡ bytes_high_first k (n / 256) ++ (n % 256) ∷ []
bytes_last zero n = refl
bytes_last (suc k) n = ap₂ (λ (b : ℕ) (bs : List ℕ). b ∷ bs) (byte_before k n) (bytes_last k n)

-- the last letter of two or more
last_letter : (n : ℕ) → 256 ≤ n → letters_of n ≡ letters_of (n / 256) ++ (n % 256) ∷ []
last_letter n h =
    let alone : 0 + n % 256 ≡ n % 256 = omega arith in
    digits_large 256 0 (omega arith) n h ∙ ap (λ (c : ℕ). letters_of (n / 256) ++ c ∷ []) alone

-- as many bytes as the number has
bytes_letters : (k n : ℕ) → (0 < k → 256 ^ k ≤ n) → n < 256 ^ suc k → bytes_high_first (suc k) n ≡ letters_of n
bytes_letters zero n low high =
    let alone : n % 256 ≡ 0 + n = omega arith in
    ap (λ (b : ℕ). b ∷ []) alone ∙ sym (digits_small 256 0 (omega arith) n (omega arith))
bytes_letters (suc k) n low high =
    let large : 256 * 256 ^ k ≤ n = omega (arith, low (omega arith), pow-suc 256 k) in
    let most : n < 256 * (256 * 256 ^ k) = omega (arith, pow-suc 256 (suc k), pow-suc 256 k) in
    let some = one-le-pow k 256 (omega arith) in
    let before = bytes_letters k (n / 256) (λ h. omega arith) (omega (arith, pow-suc 256 k)) in
    bytes_last (suc k) n ∙ ap (λ (bs : List ℕ). bs ++ (n % 256) ∷ []) before ∙ sym (last_letter n (omega arith))

drop_bytes : (f k n : ℕ) → drop f (bytes_high_first (f + k) n) ≡ bytes_high_first k n
drop_bytes zero k n = let e : 0 + k ≡ k = omega arith in rw e
drop_bytes (suc f) k n =
    let e : suc f + k ≡ suc (f + k) = omega arith in
    rw e (drop_bytes f k n)

eight_bits : (k : ℕ) → 256 ^ k ≡ 2 ^ (8 * k)
eight_bits zero = refl
eight_bits (suc k) =
    let e : 8 * suc k ≡ 8 * k + 8 = omega arith in
    rw (e, pow-add 2 (8 * k) 8, ← eight_bits k) (pow-suc 256 k ∙ omega arith)

pub bytes_from : (n first : ℕ) → n < 2 ^ 64 → first ≡ min (count_leading_zeros 64 n / 8) 7
    → drop first (bytes_high_first 8 n) ≡ letters_of n
bytes_from n first h e =
    let (m, all, less, more) = leading_length 64 n h in
    let eight : first + suc (7 - first) ≡ 8 = omega arith in
    let fits : 2 ^ m ≤ 2 ^ (8 * suc (7 - first)) = pow-le-pow_right (omega arith) (omega arith) in
    let needs : 0 < 7 - first → 2 ^ (8 * (7 - first) + 1) ≤ 2 ^ m =
    λ (some : 0 < 7 - first). pow-le-pow_right (omega arith) (omega arith) in
    ap (λ (k : ℕ). drop first (bytes_high_first k n)) (sym eight) ∙ drop_bytes first (suc (7 - first)) n
    ∙ bytes_letters (7 - first) n
    (λ (some : 0 < 7 - first). rw (eight_bits (7 - first)) (omega (arith, needs some, pow-add 2 (8 * (7 - first)) 1)))
    (rw (eight_bits (suc (7 - first))) (omega arith))
