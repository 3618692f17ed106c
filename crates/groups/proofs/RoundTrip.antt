-- A group written as thirteen bytes reads back the same, for every four words; and thirteen bytes whose blocks are
-- each valid at their place are what writing their words gives.
use Prim.Native.Nat.{ℕ, zero, suc, ◌+◌, ◌*◌, ◌-◌, ◌/◌, ◌%◌, ◌^◌, ◌<◌}
use mathlib.Core.Path.{◌≡◌, sym, ap, ap₂, ◌∙◌}
use mathlib.Core.List.{List, [], ◌∷◌}
use native.Mathlib.Omega.{arith}
use lib.ListN.{length, get_or}
use Rattle.bits.specs.Spell.{spell}
use Rattle.bits.specs.Bytes.{bit_at, Bytes}
use Rattle.bits.proofs.Spelling.{spell_add}
use Rattle.bits.proofs.ByteBits.{bit_at_lt, spell-bytes_of, bytes_of-spell}
use Rattle.blocks.specs.Block.{write_of, Valid, judge_of}
use Rattle.std.specs.Prelude.{Ok}
use Rattle.blocks.proofs.Validity.{write-lt, write_word, valid-write}
use Rattle.blocks.proofs.Reading.{judge-write}
use Rattle.groups.specs.Group.{with_block_of, all_good_of}
use Rattle.groups.specs.Header.{expected_of}
use Rattle.groups.specs.Written.{block_of, four_blocks, group_bytes, block_in, word_in, judged_in, group_in}
use Rattle.groups.proofs.BlocksInBytes.{word_in-block}

-- each of them has 16 bits
abbrev pub Words : List ℕ → Type 0
Words words = (i : ℕ) → get_or words i 0 < 65536

module _ (words : List ℕ) (fits : Words words) where
  block-of-lt : (i : ℕ) → block_of words i < 2 ^ 26
  block-of-lt i = write-lt (get_or words i 0) (expected_of i (get_or words 1 0)) (fits i)

  -- block i of the bytes is the block that was written
  pub block_in_group : (i : ℕ) → i < 4 → block_in (group_bytes words) i ≡ block_of words i
  unfolding block_in group_bytes four_blocks
  block_in_group i h = spell-bytes_of 13 number (26 * i) 26 (omega arith) ∙ digit i h
    where
      number : ℕ
      number = four_blocks (block_of words 0) (block_of words 1) (block_of words 2) (block_of words 3)

      digit : (i : ℕ) → i < 4 → number / 2 ^ (8 * 13 - (26 * i + 26)) % 2 ^ 26 ≡ block_of words i
      digit zero h = omega (arith, block-of-lt 0, block-of-lt 1, block-of-lt 2, block-of-lt 3)
      digit (suc zero) h = omega (arith, block-of-lt 0, block-of-lt 1, block-of-lt 2, block-of-lt 3)
      digit (suc (suc zero)) h = omega (arith, block-of-lt 0, block-of-lt 1, block-of-lt 2, block-of-lt 3)
      digit (suc (suc (suc zero))) h = omega (arith, block-of-lt 0, block-of-lt 1, block-of-lt 2, block-of-lt 3)
      digit (suc (suc (suc (suc i)))) h = absurd (omega arith)

  -- and its word is the word
  pub word_in_group : (i : ℕ) → i < 4 → word_in (group_bytes words) i ≡ get_or words i 0
  word_in_group i h =
      sym (word_in-block (group_bytes words) i) ∙ ap (λ (n : ℕ). n / 2 ^ 10) (block_in_group i h)
      ∙ write_word (get_or words i 0) (expected_of i (get_or words 1 0))

  -- each block is good at its place
  pub judged_in_group : (i : ℕ) → i < 4 → judged_in (group_bytes words) i ≡ Ok (get_or words i 0)
  judged_in_group i h =
      ap₂ (λ (n w : ℕ). judge_of n (expected_of i w)) (block_in_group i h) (word_in_group 1 (omega arith))
      ∙ judge-write (get_or words i 0) (expected_of i (get_or words 1 0)) (fits i)

-- from the 13 bytes the four words and four good marks come out again
pub group-read_back : (a b c d : ℕ) → Words (a ∷ b ∷ c ∷ d ∷ [])
    → group_in (group_bytes (a ∷ b ∷ c ∷ d ∷ [])) ≡ all_good_of (a ∷ b ∷ c ∷ d ∷ [])
unfolding group_in with_block_of
group-read_back a b c d fits =
    let words : List ℕ = a ∷ b ∷ c ∷ d ∷ [] in
    rw (
      judged_in_group words fits 0 (omega arith),
      judged_in_group words fits 1 (omega arith),
      judged_in_group words fits 2 (omega arith),
      judged_in_group words fits 3 (omega arith),
    )

-- 104 bits are four blocks
pub spell_blocks : (s : List ℕ) → spell (bit_at s) 0 104 ≡ four_blocks (block_in s 0) (block_in s 1) (block_in s 2)
    (block_in s 3)
unfolding block_in four_blocks
spell_blocks s =
    let add : (i m n : ℕ) → spell (bit_at s) i (m + n) ≡ spell (bit_at s) i m * 2 ^ n + spell (bit_at s) (i + m) n =
    spell_add (bit_at s) (bit_at_lt s) in
    add 0 78 26 ∙ ap (λ (x : ℕ). x * 2 ^ 26 + spell (bit_at s) 78 26)
    (add 0 52 26 ∙ ap (λ (x : ℕ). x * 2 ^ 26 + spell (bit_at s) 52 26) (add 0 26 26))

-- 13 bytes whose four blocks are each valid at their place are what writing their words gives
pub group-written_back : (s : List ℕ) → Bytes s → length s ≡ 13 →
    ((i : ℕ) → i < 4 → Valid (expected_of i (word_in s 1)) (block_in s i))
    → group_bytes (word_in s 0 ∷ word_in s 1 ∷ word_in s 2 ∷ word_in s 3 ∷ []) ≡ s
unfolding group_bytes
group-written_back s byte long valid =
    let block : (i : ℕ) → i < 4 → write_of (word_in s i) (expected_of i (word_in s 1)) ≡ block_in s i =
    λ i h. ap (λ (w : ℕ). write_of w (expected_of i (word_in s 1))) (sym (word_in-block s i)) ∙ valid-write
    (expected_of i (word_in s 1)) (block_in s i) (valid i h) in
    rw (block 0 (omega arith), block 1 (omega arith), block 2 (omega arith), block 3 (omega arith), ← spell_blocks s)
    (bytes_of-spell 13 s byte long)
