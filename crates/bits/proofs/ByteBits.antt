-- Laws of bytes as bits: a number written as bytes reads back the same, and bytes are what writing their number gives.
-- Both ways rest on one law, `spell_digits`: bits that are the binary digits of a number spell its parts.
use Prim.Native.Nat.{ℕ, zero, suc, ◌+◌, ◌*◌, ◌-◌, ◌/◌, ◌%◌, ◌^◌, ◌<◌, ◌≤◌}
use mathlib.Core.Path.{◌≡◌, refl, sym, ap, ◌∙◌}
use mathlib.Core.List.{List, ◌++◌}
use native.Mathlib.Nat.{mod-lt, zero-add}
use native.Mathlib.Numerals.{add-one}
use native.Mathlib.Omega.{arith}
use lib.ListN.{length, get_or, drop, get_or-append}
use lib.Pow.{mod-pow-add, mod-mod-pow, shr-shr, field}
use lib.Seq.{get_or-drop, ext_get_or}
use Rattle.bits.specs.Spell.{spell, Bits}
use Rattle.bits.specs.Bytes.{bit_at, Bytes, bytes_of}
use Rattle.bits.proofs.Spelling.{spell_cong, spell-moved, spell_from, spell_part}

-- ---- bits of bytes

-- they are bits
pub bit_at_lt : (s : List ℕ) → Bits (bit_at s)
unfolding bit_at
bit_at_lt s i = mod-lt _ (omega arith)

-- bits that are the digits of x, of N digits, spell its parts
pub spell_digits : (f : ℕ → ℕ) (x N : ℕ) → ((i : ℕ) → i < N → f i ≡ x / 2 ^ (N - suc i) % 2)
    → (i m : ℕ) → i + m ≤ N → spell f i m ≡ x / 2 ^ (N - (i + m)) % 2 ^ m
unfolding spell
spell_digits f x N digit i zero h = omega arith
spell_digits f x N digit i (suc m) h =
    let e : N - (i + m) ≡ (N - (i + suc m)) + 1 = omega arith in
    let d : N - suc (i + m) ≡ N - (i + suc m) = omega arith in
    rw (spell_digits f x N digit i m (omega arith), digit (i + m) (omega arith), e, d, ← shr-shr x (N - (i + suc m)) 1)
    (sym (mod-pow-add (x / 2 ^ (N - (i + suc m))) m 1) ∙ ap (λ (k : ℕ). x / 2 ^ (N - (i + suc m)) % 2 ^ k) (add-one m))

-- eight bits at a byte's place spell the byte
pub spell-byte : (s : List ℕ) → Bytes s → (a : ℕ) → spell (bit_at s) (8 * a) 8 ≡ get_or s a 0
unfolding bit_at
spell-byte s byte a =
    let digit : (i : ℕ) → i < 8 → bit_at s (8 * a + i) ≡ get_or s a 0 / 2 ^ (8 - suc i) % 2 =
    λ i h. let p : (8 * a + i) / 8 ≡ a = omega arith in let q : 7 - (8 * a + i) % 8 ≡ 8 - suc i = omega arith in rw
    (p, q) in
    spell_from (bit_at s) (8 * a) 8
    ∙ spell_digits (λ j. bit_at s (8 * a + j)) (get_or s a 0) 8 digit 0 8 (omega arith)
    ∙ omega (arith, byte a)

-- bytes dropped in front are eight bits each
pub spell-drop : (a : ℕ) (s : List ℕ) (i n : ℕ) → spell (bit_at (drop a s)) i n ≡ spell (bit_at s) (8 * a + i) n
unfolding bit_at
spell-drop a s i n =
    spell_cong (bit_at (drop a s)) (λ j. bit_at s (8 * a + j)) i n
    (λ j _ _. let p : (8 * a + j) / 8 ≡ a + j / 8 = omega arith in let q : (8 * a + j) % 8 ≡ j % 8 = omega arith in
    rw (p, q, get_or-drop a s (j / 8) 0))
    ∙ spell-moved (bit_at s) (8 * a) i n

-- bytes behind are not read
pub spell_front : (p r : List ℕ) (i n : ℕ) → i + n ≤ 8 * length p → spell (bit_at (p ++ r)) i n ≡ spell (bit_at p) i n
unfolding bit_at
spell_front p r i n h = spell_cong _ _ i n (λ j _ l. rw (get_or-append p r 0 (j / 8) (omega arith)))

-- ---- a number as bytes

pub length-bytes_of : (n x : ℕ) → length (bytes_of n x) ≡ n
unfolding bytes_of
length-bytes_of zero x = refl
length-bytes_of (suc n) x = ap suc (length-bytes_of n x)

-- byte i of the n that x is written as
pub get_d-bytes_of : (n x i : ℕ) → i < n → get_or (bytes_of n x) i 0 ≡ x / 2 ^ (8 * (n - suc i)) % 256
unfolding bytes_of
get_d-bytes_of zero x i h = absurd (omega arith)
get_d-bytes_of (suc n) x zero h = let e : suc n - 1 ≡ n = omega arith in rw e
get_d-bytes_of (suc n) x (suc i) h =
    let e : suc n - suc (suc i) ≡ n - suc i = omega arith in rw e (get_d-bytes_of n x i (omega arith))

-- they are bytes
pub bytes_of_lt : (n x : ℕ) → Bytes (bytes_of n x)
unfolding bytes_of
bytes_of_lt zero x i = omega arith
bytes_of_lt (suc n) x zero = mod-lt _ (omega arith)
bytes_of_lt (suc n) x (suc i) = bytes_of_lt n x i

-- a bit of a number's lowest byte is a bit of the number
bit_low-byte : (y r : ℕ) → r < 8 → (b : ℕ) → b ≡ y % 256 → b / 2 ^ (7 - r) % 2 ≡ y / 2 ^ (7 - r) % 2
bit_low-byte y r h b e =
    let d : r + 1 + (7 - r) ≡ 8 = omega arith in
    let l : b ≡ y % 2 ^ (r + 1 + (7 - r)) = rw d e in
    rw (l, field y (r + 1) (7 - r)) (mod-mod-pow (y / 2 ^ (7 - r)) r 1)

-- bit i of them is a digit of x
bit-bytes_of : (n x i : ℕ) → i < 8 * n → bit_at (bytes_of n x) i ≡ x / 2 ^ (8 * n - suc i) % 2
unfolding bit_at
bit-bytes_of n x i h =
    let e : 8 * (n - suc (i / 8)) + (7 - i % 8) ≡ 8 * n - suc i = omega arith in
    bit_low-byte (x / 2 ^ (8 * (n - suc (i / 8)))) (i % 8) (omega arith) _ (get_d-bytes_of n x (i / 8) (omega arith))
    ∙ rw (shr-shr x (8 * (n - suc (i / 8))) (7 - i % 8), e)

-- what is written reads back: the bits of the n bytes are the digits of x
pub spell-bytes_of : (n x i m : ℕ) → i + m ≤ 8 * n → spell (bit_at (bytes_of n x)) i m ≡ x / 2 ^ (8 * n - (i + m)) % 2 ^ m
spell-bytes_of n x i m h = spell_digits (bit_at (bytes_of n x)) x (8 * n) (bit-bytes_of n x) i m h

-- n bytes are what writing the number that they spell gives
pub bytes_of-spell : (n : ℕ) (s : List ℕ) → Bytes s → length s ≡ n → bytes_of n (spell (bit_at s) 0 (8 * n)) ≡ s
bytes_of-spell n s byte len =
    ext_get_or 0 _ _ (length-bytes_of n _ ∙ sym len)
    (λ i l. let h : i < n = rw (length-bytes_of n (spell (bit_at s) 0 (8 * n))) at l in
    let e : 8 * n ≡ 8 * i + 8 + 8 * (n - suc i) = omega arith in
    get_d-bytes_of n _ i h ∙ rw e (sym (rw (zero-add (8 * i)) at
    (spell_part (bit_at s) (bit_at_lt s) 0 (8 * i) 8 (8 * (n - suc i)))))
    ∙ spell-byte s byte i)
