-- Locked: what is read off the bits from the locking pair's first on, by index. Blocks, good or bad at their places;
-- groups; runs. The bits are those of the pair and all that came since.
use Rattle.std.specs.Prelude.{ℕ, zero, suc, ◌+◌, ◌*◌, ◌-◌, ◌%◌, List, [], ◌∷◌, Bool, cond, ◌&&◌, eqb, leb}
use Rattle.bits.specs.Spell.{spell, listed}
use Rattle.blocks.specs.Block.{Judged, judge_of}
use Rattle.blocks.specs.Damage.{block_bits}
use Rattle.blocks.specs.declared.Kind.{Kind}
use Rattle.blocks.specs.declared.Kind.TheVariants.{A, B, C, CPrime, D}
use Rattle.groups.specs.declared.Group.{Group}
use Rattle.groups.specs.Group.{places, judged_word, judged_good}
use Rattle.receiver.specs.Rules.{run_blocks, judged_at, is_bad_of, loses_of}

-- ---- blocks and their places, from the pair's first block on

-- each 26 bits are one block: block k of the bits, from 0
abbrev pub block_of : List ℕ → ℕ → ℕ
block_of bits k = spell (listed bits) (block_bits * k) block_bits

-- the place in its group of a block of this kind, from 0
abbrev pub place_of : Kind → ℕ
place_of A = 0
place_of B = 1
place_of C = 2
place_of CPrime = 2
place_of D = 3

-- the place of block k
abbrev pub place_at : Kind → ℕ → ℕ
place_at kind k = (place_of kind + k) % places

-- how the block before block k was judged as a second block
abbrev pub second_before : List ℕ → ℕ → Judged
second_before bits k = judge_of (block_of bits (k - 1)) B

-- block k, good exactly if valid as the expected kind; after a bad second block the third is bad. (Only the first block
-- of a pair C,D or C',D is a third one with none before it; it is in no group in hand and in no run.)
unfoldable pub judged_in : Kind → List ℕ → ℕ → Judged
judged_in kind bits k = judged_at (place_at kind k) (second_before bits k) (block_of bits k)

-- ---- groups

-- the group of the four blocks from block k on, mask included; words at bad places are 0
abbrev pub group_from : (ℕ → Judged) → ℕ → Group
group_from judged k =
    record {
      words = judged_word (judged k) ∷ judged_word (judged (k + 1)) ∷ judged_word (judged (k + 2))
          ∷ judged_word (judged (k + 3)) ∷ [];
      good = judged_good (judged k) ∷ judged_good (judged (k + 1)) ∷ judged_good (judged (k + 2))
          ∷ judged_good (judged (k + 3)) ∷ [];
    }

-- m blocks have come and the last was a fourth one: the first block of its group
abbrev pub group_start : ℕ → ℕ
group_start m = m - places

-- its group is in hand: all its four blocks have come, the pair's among them. So after A,B two blocks are in hand,
-- after D,A one, otherwise none until the next first position.
abbrev pub in_hand : ℕ → Bool
in_hand m = leb places m

-- m blocks have come: the last was a fourth one, the next is a first one, and its group is in hand
unfoldable pub completes_at : Kind → ℕ → Bool
completes_at kind m = eqb (place_at kind m) 0 && in_hand m

-- ---- runs

-- the blocks of the locking pair
abbrev pub pair_blocks : ℕ
pair_blocks = 2

-- how many of the n blocks from block k on were bad
unfoldable pub bads_from : (ℕ → Judged) → ℕ → ℕ → ℕ
bads_from judged k zero = 0
bads_from judged k (suc n) = bads_from judged k n + cond (is_bad_of (judged (k + n))) 1 0

-- m blocks have come, and with the last one a run of 50 after the locking pair: lock is lost if more than 45 were bad
unfoldable pub loses_at : Kind → List ℕ → ℕ → Bool
loses_at kind bits m =
    eqb ((m - pair_blocks) % run_blocks) 0 && loses_of (bads_from (judged_in kind bits) (m - run_blocks) run_blocks)
