-- The tests as the marker runs them: from the results of its calls to the definitions.
use Rattle.std.specs.Prelude.{Option}
use Prim.Native.Nat.{ℕ, ◌+◌, ◌*◌, ◌/◌, ◌%◌, ◌<◌}
use mathlib.Core.Path.{◌≡◌, refl, sym, ◌∙◌}
use mathlib.Core.List.{List}
use mathlib.Core.Bool.{Bool, true, false, not, ◌||◌, true≢false}
use native.Mathlib.Omega.{arith}
use lib.Dec.{eqb}
use borrow.Author.Tests.{not-false}
use Rattle.blocks.specs.declared.Kind.{Kind}
use Rattle.std.specs.Prelude.{Ok, Err, is_err}
use Rattle.blocks.specs.declared.BlockError.TheVariants.{Bad, TooLong}
use Rattle.blocks.specs.Block.{Judged, valid, word_of, judge_of}
use Rattle.blocks.proofs.Validity.{valid_true, true-valid, valid_false}
use Rattle.blocks.proofs.Reading.{judge-valid, judge_bad, judged-valid, bad-valid}
use Rattle.groups.specs.Header.{expected_of}
use Rattle.groups.specs.Written.{block_in, word_in}
use Rattle.groups.proofs.BlocksInBytes.{block_in-lt}
use Rattle.keys.specs.Fields.{text_pair_of}
use Rattle.keys.specs.Wanted.{wanted_address}
use Rattle.keys.proofs.WantedLaws.{wanted_address_lem, addresses_most}
use Rattle.marker.specs.Submission.{kind_at}
use Rattle.marker.specs.Tests.{block_wrong, unlike, text_wrong}
use Rattle.marker.specs.Rules.{BlockRight}

-- ---- a block judged as its kind

module _ (s : List ℕ) (j b w2 : ℕ) (k : Kind) (r : Judged) (word : w2 ≡ word_in s (4 * (j / 4) + 1))
    (kind : k ≡ expected_of (j % 4) w2) (block : b ≡ block_in s j) (judged : r ≡ judge_of b k) where
  judged_at_lem : judge_of (block_in s j) (kind_at s j) ≡ r
  judged_at_lem = sym (judged ∙ rw (kind, word, block))

  block_good : (w : ℕ) → r ≡ Ok w → false ≡ block_wrong s j
  unfolding block_wrong
  block_good w e =
      let v : BlockRight s j = (judged-valid (block_in s j) w (kind_at s j) (judged_at_lem ∙ e)).1 in
      rw (valid_true (kind_at s j) (block_in s j) v)

  block_bad : r ≡ Err Bad → true ≡ block_wrong s j
  unfolding block_wrong
  block_bad e = rw (valid_false (kind_at s j) (block_in s j) (bad-valid (block_in s j) (kind_at s j) (judged_at_lem ∙ e)))

  -- a block of a submission has 26 bits, so that it is never refused
  block_refused : r ≡ Err TooLong → true ≡ block_wrong s j
  block_refused e = absurd (told (valid (kind_at s j) (block_in s j)) refl)
    where
      told : (b : Bool) → valid (kind_at s j) (block_in s j) ≡ b → ⊥
      told true t =
          let g : judge_of (block_in s j) (kind_at s j) ≡ Ok (word_of (block_in s j)) =
          judge-valid (block_in s j) (kind_at s j) (block_in-lt s j) (true-valid (kind_at s j) (block_in s j) t) in
          let h : r ≡ Ok (word_of (block_in s j)) = sym judged_at_lem ∙ g in
          let z : ◌≡◌ {A = ℕ} 0 1 = cc in omega arith
      told false t =
          let g : judge_of (block_in s j) (kind_at s j) ≡ Err Bad =
          judge_bad (block_in s j) (kind_at s j) (block_in-lt s j)
          (λ v. true≢false (sym (valid_true (kind_at s j) (block_in s j) v) ∙ t)) in
          let h : r ≡ Err Bad = sym judged_at_lem ∙ g in
          let z : ◌≡◌ {A = ℕ} 0 1 = cc in omega arith

  -- it is wrong exactly where it is judged to be no good one
  pub judged_wrong : is_err r ≡ block_wrong s j
  judged_wrong = by r refl
    where
      by : (q : Judged) → r ≡ q → is_err q ≡ block_wrong s j
      by (Ok w) e = block_good w e
      by (Err Bad) e = block_bad e
      by (Err TooLong) e = block_refused e

-- ---- a 2A

module _ (k : List ℕ) (a : ℕ) (b : Bool) (asked : b ≡ wanted_address k (4 + a)) where
  -- a wanted text address is one of sixteen
  pub text_address_lt : not b ≡ false → a < 16
  text_address_lt t =
      omega (arith, wanted_address_lem k (4 + a) (sym asked ∙ not-false b t), addresses_most k)

  module _ (held : Option Bool) (flag : Bool) (x y : ℕ) where
    pub text_unwanted : not b ≡ true → true ≡ text_wrong k held flag a x y
    unfolding text_wrong
    text_unwanted t = rw (← asked, t)

    pub text_compared : not b ≡ false → (p q : ℕ) (u : Bool) → p ≡ text_pair_of k (2 * a) → q ≡ text_pair_of k (2 * a + 1)
        → u ≡ unlike held flag → (not (eqb x p) || (not (eqb y q) || u)) ≡ text_wrong k held flag a x y
    unfolding text_wrong
    text_compared t p q u e f g = rw (← asked, t, e, f, g)
