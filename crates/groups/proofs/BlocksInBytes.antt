-- Where the blocks of a group stand in its bytes: block 4g + p is 26 of the 32 bits from byte 13g + 3p on, with 6 -
-- 2p bits behind it.
use Prim.Native.Nat.{ℕ, zero, suc, ◌+◌, ◌*◌, ◌-◌, ◌/◌, ◌%◌, ◌^◌, ◌<◌, ◌≤◌}
use mathlib.Core.Path.{◌≡◌, sym, ap, ap₂, ◌∙◌}
use mathlib.Core.List.{List, [], ◌∷◌}
use native.Mathlib.Nat.{zero-div}
use native.Mathlib.Omega.{arith}
use Rattle.std.specs.Int.{w32, from_be_bytes}
use lib.ListN.{length, get_or, drop, get_or-eq_default}
use lib.Pow.{high}
use Rattle.bits.specs.Spell.{spell}
use Rattle.bits.specs.Bytes.{bit_at, Bytes}
use Rattle.bits.proofs.Spelling.{spell_lt, spell_add, spell_part, spell-zeros}
use Rattle.bits.proofs.ByteBits.{bit_at_lt, spell-byte, spell-drop}
use Rattle.groups.specs.declared.Group.{Group}
use Rattle.groups.specs.Group.{empty_of, with_block_of}
use Rattle.groups.specs.Written.{block_in, word_in, judged_in}

-- 32 bits from a byte on are four bytes
pub spell_four : (s : List ℕ) → Bytes s → (a : ℕ)
    → spell (bit_at s) (8 * a) 32 ≡ (get_or s a 0 * 256 + get_or s (a + 1) 0) * 65536 +
    (get_or s (a + 2) 0 * 256 + get_or s (a + 3) 0)
spell_four s byte a =
    let f : ℕ → ℕ = bit_at s in
    let add : (i m n : ℕ) → spell f i (m + n) ≡ spell f i m * 2 ^ n + spell f (i + m) n = spell_add f (bit_at_lt s) in
    let b : (k : ℕ) → spell f (8 * a + 8 * k) 8 ≡ get_or s (a + k) 0 =
    λ k. ap (λ (i : ℕ). spell f i 8) (omega arith) ∙ spell-byte s byte (a + k) in
    let one : spell f (8 * a) 16 ≡ get_or s a 0 * 256 + get_or s (a + 1) 0 =
    add (8 * a) 8 8 ∙ ap₂ (λ (x y : ℕ). x * 256 + y) (spell-byte s byte a) (b 1) in
    let two : spell f (8 * a + 16) 16 ≡ get_or s (a + 2) 0 * 256 + get_or s (a + 3) 0 =
    add (8 * a + 16) 8 8 ∙ ap₂ (λ (x y : ℕ). x * 256 + y) (b 2) (ap (λ (i : ℕ). spell f i 8) (omega arith) ∙ b 3) in
    add (8 * a) 16 16 ∙ ap₂ (λ (x y : ℕ). x * 65536 + y) one two

-- the block at place p of the first group
pub block_in_bytes : (s : List ℕ) → Bytes s → (p : ℕ) → p < 4
    → from_be_bytes w32 (get_or s (3 * p) 0 ∷ get_or s (3 * p + 1) 0 ∷ get_or s (3 * p + 2) 0 ∷ get_or s (3 * p + 3) 0 ∷ [])
    / 2 ^ (6 - 2 * p) % 67108864 ≡ block_in s p
unfolding block_in
block_in_bytes s byte p h =
    let e : from_be_bytes w32
    (get_or s (3 * p) 0 ∷ get_or s (3 * p + 1) 0 ∷ get_or s (3 * p + 2) 0 ∷ get_or s (3 * p + 3) 0 ∷ [])
    ≡ (get_or s (3 * p) 0 * 256 + get_or s (3 * p + 1) 0) * 65536 + (get_or s (3 * p + 2) 0 * 256 + get_or s (3 * p + 3) 0) =
    omega arith in
    let n : 32 ≡ 2 * p + 26 + (6 - 2 * p) = omega arith in
    let i : 26 * p ≡ 8 * (3 * p) + 2 * p = omega arith in
    rw (e, ← spell_four s byte (3 * p), i, n) (sym (spell_part (bit_at s) (bit_at_lt s) (8 * (3 * p)) (2 * p) 26
    (6 - 2 * p)))

-- a later group's blocks are those of the bytes from its first on
pub block_in-drop : (s : List ℕ) (g p : ℕ) → block_in (drop (13 * g) s) p ≡ block_in s (4 * g + p)
unfolding block_in
block_in-drop s g p = spell-drop (13 * g) s (26 * p) 26 ∙ ap (λ (i : ℕ). spell (bit_at s) i 26) (omega arith)

pub word_in-drop : (s : List ℕ) (g p : ℕ) → word_in (drop (13 * g) s) p ≡ word_in s (4 * g + p)
unfolding word_in
word_in-drop s g p = spell-drop (13 * g) s (26 * p) 16 ∙ ap (λ (i : ℕ). spell (bit_at s) i 16) (omega arith)

-- past the end there are only zeros
pub block_past : (s : List ℕ) (j : ℕ) → 8 * length s ≤ 26 * j → block_in s j ≡ 0
unfolding block_in bit_at
block_past s j h =
    spell-zeros (bit_at s) (26 * j) 26
    (λ i p q. let past : length s ≤ i / 8 = omega arith in rw
    (get_or-eq_default s 0 past, zero-div (2 ^ (7 - i % 8))))

-- a block has 26 bits, and its word is the first 16 of them
pub block_in-lt : (s : List ℕ) (j : ℕ) → block_in s j < 2 ^ 26
unfolding block_in
block_in-lt s j = spell_lt (bit_at s) (bit_at_lt s) (26 * j) 26

pub word_in-lt : (s : List ℕ) (j : ℕ) → word_in s j < 65536
unfolding word_in
word_in-lt s j = spell_lt (bit_at s) (bit_at_lt s) (26 * j) 16

pub word_in-block : (s : List ℕ) (j : ℕ) → block_in s j / 2 ^ 10 ≡ word_in s j
unfolding block_in word_in
word_in-block s j =
    rw (spell_add (bit_at s) (bit_at_lt s) (26 * j) 16 10)
    (high (spell (bit_at s) (26 * j) 16) 10 (spell_lt (bit_at s) (bit_at_lt s) (26 * j + 16) 10))

-- ---- a group, block by block

-- the first so many of its blocks
unfoldable pub group_before : List ℕ → ℕ → Group
group_before s zero = empty_of
group_before s (suc i) = with_block_of (group_before s i) i (judged_in s i)
