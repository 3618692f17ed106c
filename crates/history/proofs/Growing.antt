-- A history that grows at its end: its length, its bits, the blocks that are not touched, the block that ends, and the
-- last 52 bits as one number. All rest on `spell-more` and `spell_part` of the floor `bits`.
use Prim.Native.Nat.{ℕ, zero, suc, ◌+◌, ◌*◌, ◌-◌, ◌/◌, ◌%◌, ◌^◌, ◌<◌, ◌≤◌}
use mathlib.Core.Path.{◌≡◌, sym, ◌∙◌}
use mathlib.Core.List.{List, [], ◌∷◌, ◌++◌}
use mathlib.Core.Bool.{true, false}
use native.Mathlib.Omega.{arith}
use lib.ListN.{length, drop, length-append}
use borrow.Author.Tests.{le-leb, lt-leb}
use lib.Pow.{pow_mono}
use lib.Seq.{get_or-append_seam, get_or-drop}
use Rattle.bits.specs.Spell.{spell, Bits, listed}
use Rattle.bits.proofs.Spelling.{spell_cong, spell-moved, spell-more, spell_lt, spell_part}
use Rattle.blocks.specs.declared.Kind.{Kind}
use Rattle.receiver.specs.Machine.{shift_of, newer_of, older_of}
use Rattle.history.specs.Locked.{block_of, second_before, judged_in}
use Rattle.history.specs.Heard.{enough, last_pair}

-- ---- one bit more

pub length_more : (bits : List ℕ) (bit : ℕ) → length (bits ++ bit ∷ []) ≡ length bits + 1
length_more bits bit = length-append bits (bit ∷ [])

pub bits-more : (bits : List ℕ) (bit : ℕ) → Bits (listed bits) → bit < 2 → Bits (listed (bits ++ bit ∷ []))
bits-more [] bit all h zero = h
bits-more [] bit all h (suc i) = omega arith
bits-more (x ∷ xs) bit all h zero = all 0
bits-more (x ∷ xs) bit all h (suc i) = bits-more xs bit (λ j. all (suc j)) h i

-- it is spelled behind the others
pub spell_last : (bits : List ℕ) (bit i n : ℕ) → i + n ≡ length bits
    → spell (listed (bits ++ bit ∷ [])) i (suc n) ≡ spell (listed bits) i n * 2 + bit
unfolding spell
spell_last bits bit i n e = rw (spell-more bits bit i n (omega arith), e, get_or-append_seam bits bit [] 0)

-- bits dropped in front
pub spell_dropped : (n : ℕ) (bits : List ℕ) (i c : ℕ) → spell (listed (drop n bits)) i c ≡ spell (listed bits) (n + i) c
spell_dropped n bits i c =
    spell_cong (listed (drop n bits)) (λ j. listed bits (n + j)) i c (λ j _ _. get_or-drop n bits j 0)
    ∙ spell-moved (listed bits) n i c

-- ---- when 52 bits have come

pub enough_true : (bits : List ℕ) → 52 ≤ length bits → enough bits ≡ true
enough_true bits h = omega (arith, le-leb)

pub enough_false : (bits : List ℕ) → length bits < 52 → enough bits ≡ false
enough_false bits h = omega (arith, lt-leb)

-- ---- the window while hunting: the last 52 bits of all

-- the number that all bits spell
abbrev pub spelled : List ℕ → ℕ
spelled bits = spell (listed bits) 0 (length bits)

pub spelled-more : (bits : List ℕ) (bit : ℕ) → spelled (bits ++ bit ∷ []) ≡ spelled bits * 2 + bit
spelled-more bits bit =
    let e : length bits + 1 ≡ suc (length bits) = omega arith in
    rw (length_more bits bit, e) (spell_last bits bit 0 (length bits) (omega arith))

pub window_more : (bits : List ℕ) (bit : ℕ) → bit < 2
    → shift_of (spelled bits % 2 ^ 52) bit ≡ spelled (bits ++ bit ∷ []) % 2 ^ 52
window_more bits bit h = rw (spelled-more bits bit) (omega arith)

module _ (bits : List ℕ) (all : Bits (listed bits)) (long : 52 ≤ length bits) where
  -- a block that ends q bits before the end
  block-before : (q : ℕ) → q ≤ 26 → spell (listed bits) (length bits - 26 - q) 26 ≡ spelled bits / 2 ^ q % 2 ^ 26
  block-before q h =
      let start : 0 + (length bits - 26 - q) ≡ length bits - 26 - q = omega arith in
      let whole : length bits - 26 - q + 26 + q ≡ length bits = omega arith in
      rw (start, whole) at (spell_part (listed bits) all 0 (length bits - 26 - q) 26 q)

  pub older_is : older_of (spelled bits % 2 ^ 52) ≡ block_of (last_pair bits) 0
  older_is =
      let start : length bits - 52 + 0 ≡ length bits - 26 - 26 = omega arith in
      rw (spell_dropped (length bits - 52) bits 0 26, start, block-before 26 (omega arith)) (omega arith)

  pub newer_is : newer_of (spelled bits % 2 ^ 52) ≡ block_of (last_pair bits) 1
  newer_is =
      let start : length bits - 52 + 26 ≡ length bits - 26 - 0 = omega arith in
      rw (spell_dropped (length bits - 52) bits 26 26, start, block-before 0 (omega arith)) (omega arith)

-- ---- blocks

-- a block that is whole stays
pub block_kept : (bits : List ℕ) (bit k : ℕ) → 26 * k + 26 ≤ length bits → block_of (bits ++ bit ∷ []) k ≡ block_of bits k
block_kept bits bit k h = spell-more bits bit (26 * k) 26 h

pub second_kept : (bits : List ℕ) (bit k : ℕ) → 1 ≤ k → 26 * k ≤ length bits
    → second_before (bits ++ bit ∷ []) k ≡ second_before bits k
second_kept bits bit k h l = rw (block_kept bits bit (k - 1) (omega arith))

pub judged_kept : (kind : Kind) (bits : List ℕ) (bit k : ℕ) → 26 * k + 26 ≤ length bits
    → judged_in kind (bits ++ bit ∷ []) k ≡ judged_in kind bits k
unfolding judged_in
judged_kept kind bits bit k h = rw (block_kept bits bit k h, block_kept bits bit (k - 1) (omega arith))

-- the window while locked: the bits of the block that is coming
pub inside-more : (bits : List ℕ) (bit m c : ℕ) → Bits (listed bits) → length bits ≡ 26 * m + c → c < 26
    → shift_of (spell (listed bits) (26 * m) c) bit ≡ spell (listed (bits ++ bit ∷ [])) (26 * m) (c + 1)
inside-more bits bit m c all e h =
    let next : c + 1 ≡ suc c = omega arith in
    let small : spell (listed bits) (26 * m) c < 2 ^ 51 =
    omega (arith, spell_lt (listed bits) all (26 * m) c, pow_mono {i = c} {j = 25} (omega arith)) in
    rw (next, spell_last bits bit (26 * m) c (sym e)) (omega arith)

-- with its last bit it is the block
pub block_ended : (bits : List ℕ) (bit m : ℕ) → Bits (listed bits) → bit < 2 → length bits ≡ 26 * m + 25
    → newer_of (shift_of (spell (listed bits) (26 * m) 25) bit) ≡ block_of (bits ++ bit ∷ []) m
block_ended bits bit m all h e =
    rw (inside-more bits bit m 25 all e (omega arith))
    (omega (arith, spell_lt (listed (bits ++ bit ∷ [])) (bits-more bits bit all h) (26 * m) 26))
