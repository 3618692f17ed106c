-- A stream of valid groups over any source of bits, `f i` is bit i, and what is answered where it is fed from the first
-- bit of one of its blocks on.
use Rattle.std.specs.Prelude.{ℕ, zero, suc, ◌+◌, ◌*◌, ◌-◌, ◌/◌, ◌%◌, ◌<◌, ◌≤◌, List, [], ◌∷◌, ◌++◌, Bool, cond, ◌&&◌, eqb, leb}
use Rattle.bits.specs.Spell.{spell}
use Rattle.blocks.specs.Block.{word_of, Valid}
use Rattle.blocks.specs.Damage.{block_bits}
use Rattle.blocks.specs.declared.Kind.{Kind}
use Rattle.groups.specs.declared.Group.{Group}
use Rattle.groups.specs.Group.{places, empty_of, all_good_of}
use Rattle.groups.specs.Header.{expected_of}
use Rattle.receiver.specs.declared.Answer.{Answer}
use Rattle.receiver.specs.declared.Answer.TheVariants as answer
use Rattle.receiver.specs.Rules.{pair_bits}

-- ---- the stream

-- the n bits from bit i on
unfoldable pub bits_from : (ℕ → ℕ) → ℕ → ℕ → List ℕ
bits_from f i zero = []
bits_from f i (suc n) = bits_from f i n ++ f (i + n) ∷ []

-- block j, and its word
abbrev pub sent_block : (ℕ → ℕ) → ℕ → ℕ
sent_block f j = spell f (block_bits * j) block_bits

abbrev pub sent_word : (ℕ → ℕ) → ℕ → ℕ
sent_word f j = word_of (sent_block f j)

-- block j stands at place j % 4 of group j / 4: word 2 of that group
abbrev pub second_word : (ℕ → ℕ) → ℕ → ℕ
second_word f j = sent_word f (places * (j / places) + 1)

-- the kind that is expected there, the third by word 2
abbrev pub sent_kind : (ℕ → ℕ) → ℕ → Kind
sent_kind f j = expected_of (j % places) (second_word f j)

-- the n blocks from block s on are valid, each as the kind that its place expects
abbrev pub ValidBlocks : (ℕ → ℕ) → ℕ → ℕ → Type 0
ValidBlocks f s n = (j : ℕ) → s ≤ j → j < s + n → Valid (sent_kind f j) (sent_block f j)

-- the four blocks from block j on as a group, all good
abbrev pub sent_group : (ℕ → ℕ) → ℕ → Group
sent_group f j = all_good_of (sent_word f j ∷ sent_word f (j + 1) ∷ sent_word f (j + 2) ∷ sent_word f (j + 3) ∷ [])

-- the n groups from group g on, in order
unfoldable pub sent_groups : (ℕ → ℕ) → ℕ → ℕ → List Group
sent_groups f g zero = []
sent_groups f g (suc n) = sent_groups f g n ++ sent_group f (places * (g + n)) ∷ []

-- ---- what is answered to the n-th bit, from 1, that was fed from block s on

-- four blocks have been fed: a group that ends now lies whole in what was fed
abbrev pub lies_whole : ℕ → Bool
lies_whole n = leb places (n / block_bits)

-- a group ends with it that lies whole in what was fed
unfoldable pub ends_group : ℕ → ℕ → Bool
ends_group s n = eqb (n % block_bits) 0 && (eqb ((s + n / block_bits) % places) 0 && lies_whole n)

-- the first block of that group
abbrev pub sent_start : ℕ → ℕ → ℕ
sent_start s n = s + n / block_bits - places

-- locked at bit 52, then each whole group at its last bit, nothing else
unfoldable pub answer_at : (ℕ → ℕ) → ℕ → ℕ → Answer
answer_at f s n =
    cond (eqb n pair_bits) answer.Locked
    (cond (ends_group s n) (answer.Group (sent_group f (sent_start s n))) answer.Nothing)

-- the group of that answer; the empty one where none is answered
unfoldable pub group_at : (ℕ → ℕ) → ℕ → ℕ → Group
group_at f s n = cond (ends_group s n) (sent_group f (sent_start s n)) empty_of
