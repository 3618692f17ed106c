-- A damaged block is the first that is not valid as its kind: no block before it changed, and its kind and theirs stay,
-- as only a third block has its kind by a word, and that word stands before it.
use Prim.Native.Nat.{ℕ, zero, suc, ◌+◌, ◌*◌, ◌/◌, ◌%◌, ◌≤◌, ◌<◌}
use mathlib.Core.Path.{◌≡◌, refl, ap, subst, ◌∙◌}
use mathlib.Core.List.{List}
use mathlib.Core.Logic.{⊎_elim}
use native.Mathlib.Omega.{arith}
use Rattle.bits.specs.Spell.{spell}
use Rattle.bits.specs.Bytes.{bit_at}
use Rattle.bits.proofs.Order.{lt-or-le}
use Rattle.bits.proofs.Spelling.{spell_cong, spell_from}
use Rattle.bits.proofs.ByteBits.{bit_at_lt}
use Rattle.blocks.specs.Block.{Valid}
use Rattle.blocks.specs.declared.Kind.{Kind}
use Rattle.blocks.proofs.Damaged.{damage_shows}
use Rattle.groups.specs.Header.{expected_of}
use Rattle.groups.specs.Written.{block_in, word_in}
use Rattle.marker.specs.declared.Verdict.TheVariants.{BadBlock}
use Rattle.marker.specs.Submission.{blocks_in, kind_at}
use Rattle.marker.specs.Rules.{GoodLength, BlockRight, BlocksRight, KeyGood, Told}
use Rattle.marker.proofs.TableLaws.{told_number_lem}
use Rattle.demands.specs.Passing.{DamagedIn, DamageShows}
use Rattle.demands.proofs.PassingExactly.{passed_exactly}

-- the first two places have their kind by no word
expected-first : (p v w : ℕ) → p < 2 → expected_of p v ≡ expected_of p w
expected-first zero v w h = refl
expected-first (suc zero) v w h = refl
expected-first (suc (suc p)) v w h = absurd (omega arith)

module _ (j : ℕ) (s t : List ℕ) (damaged : DamagedIn j s t) where
  -- another block
  module _ (i : ℕ) (other : i ≡ j → ⊥) where
    same-spelled : (n : ℕ) → n ≤ 26 → spell (bit_at t) (26 * i) n ≡ spell (bit_at s) (26 * i) n
    same-spelled n h =
        spell_cong (bit_at t) (bit_at s) (26 * i) n (λ b p q. damaged.elsewhere b (λ e. other (omega arith)))

    same_block : block_in t i ≡ block_in s i
    unfolding block_in
    same_block = same-spelled 26 (omega arith)

    same_word : word_in t i ≡ word_in s i
    unfolding word_in
    same_word = same-spelled 16 (omega arith)

  -- no kind changes up to the damaged block
  same_kind : (i : ℕ) → i ≤ j → kind_at t i ≡ kind_at s i
  same_kind i h =
      ⊎_elim (λ l. expected-first (i % 4) _ _ l)
      (λ l. ap (expected_of (i % 4)) (same_word (4 * (i / 4) + 1) (λ e. omega arith))) (lt-or-le (i % 4) 2)

  -- blocks before it stay right
  right-before : (i : ℕ) → i < j → BlockRight s i → BlockRight t i
  right-before i h right = rw (same_kind i (omega arith), same_block i (λ e. omega arith)) right

  -- it is not right any more
  wrong-there : BlockRight s j → BlockRight t j → ⊥
  unfolding block_in
  wrong-there before after =
      let kind : Kind = kind_at s j in
      let from : (u : List ℕ) → spell (bit_at u) (26 * j) 26 ≡ spell (λ i. bit_at u (26 * j + i)) 0 26 =
      λ u. spell_from (bit_at u) (26 * j) 26 in
      damage_shows kind (λ i. bit_at s (26 * j + i)) (λ i. bit_at t (26 * j + i)) (λ i. bit_at_lt s (26 * j + i))
      (λ i. bit_at_lt t (26 * j + i)) damaged.damage (subst (Valid kind) (from s) before)
      (subst (Valid kind) (from t) (subst (λ (k : Kind). Valid k (block_in t j)) (same_kind j (omega arith)) after))

  good_length : GoodLength s → GoodLength t
  good_length right =
      record {
        groups = right.groups;
        whole = damaged.long ∙ right.whole;
        some = right.some;
        few = rw damaged.long right.few;
      }

  told-block : (sheet : List ℕ) (n : ℕ) → KeyGood sheet n → GoodLength s → BlocksRight s → Told sheet n t (BadBlock j)
  unfolding Told
  told-block sheet n key long valid =
      let there : j < blocks_in s = damaged.there in (
        key,
        good_length long,
        rw damaged.long there,
        wrong-there (valid j there),
        λ i h. right-before i h (valid i (omega arith)),
      )

pub damage-answered : DamageShows
damage-answered sheet n s t j passed damaged =
    let told = (passed_exactly sheet n s).0 passed in
    told_number_lem sheet n t (BadBlock j) (told-block j s t damaged sheet n told.0 told.1 told.2.blocks)
