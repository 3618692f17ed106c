-- The groups that a fresh receiver answers to the bits of a submission whose blocks are all right: just its groups, in
-- order. The history's law on a stream of valid groups says so once the submission is seen as one.
use Prim.Native.Nat.{ℕ, zero, suc, ◌+◌, ◌*◌, ◌/◌, ◌<◌}
use mathlib.Core.Path.{◌≡◌, refl, ap, ◌∙◌}
use mathlib.Core.List.{List, [], ◌∷◌, ◌++◌}
use mathlib.Core.Bool.{Bool, true, false, cond}
use mathlib.Core.Logic.{⊎_elim}
use native.Mathlib.Nat.{eq-or-lt_of_le, add-zero, zero-add}
use native.Mathlib.Omega.{arith}
use lib.ListN.{length}
use Rattle.bits.specs.Bytes.{bit_at}
use Rattle.bits.proofs.ByteBits.{bit_at_lt}
use Rattle.groups.specs.declared.Group.{Group}
use Rattle.groups.specs.Group.{all_good_of}
use Rattle.groups.specs.Written.{block_in, word_in}
use Rattle.groups.proofs.BlocksInBytes.{word_in-block}
use Rattle.receiver.specs.declared.Receiver.{Receiver}
use Rattle.receiver.specs.Answers.{brings_group, group_of}
use Rattle.receiver.specs.Machine.{step_of, fresh_of}
use Rattle.history.specs.Streams.{bits_from, sent_word, sent_group, sent_groups, ValidBlocks}
use Rattle.history.proofs.Answered.{answered_of, all-groups-answered}
use Rattle.station.specs.History.{some}
use Rattle.station.specs.Whole.{Every}
use Rattle.station.proofs.Lists.{some_more}
use Rattle.marker.specs.Submission.{groups_in, word_at}
use Rattle.marker.specs.Rules.{GoodLength, BlocksRight}
use Rattle.demands.specs.Passing.{bits_of, groups_heard}

-- the history says the same of the groups that are answered
heard-answered : (r : Receiver) (bits : List ℕ) → groups_heard r bits ≡ answered_of r bits
unfolding groups_heard answered_of
heard-answered r [] = refl
heard-answered r (bit ∷ bits) =
    rw (heard-answered (step_of r bit).next bits)
    (one (brings_group (step_of r bit).answer) (group_of (step_of r bit).answer) (answered_of (step_of r bit).next bits))
  where
    one : (b : Bool) (g : Group) (gs : List Group) → cond b (g ∷ gs) gs ≡ cond b (g ∷ []) [] ++ gs
    one true g gs = refl
    one false g gs = refl

-- group g of a submission: its four words, all good
abbrev pub group_at : List ℕ → ℕ → Group
group_at s g = all_good_of (word_at s g 0 ∷ word_at s g 1 ∷ word_at s g 2 ∷ word_at s g 3 ∷ [])

module _ (s : List ℕ) where
  -- a submission is a stream
  sent_word_lem : (j : ℕ) → sent_word (bit_at s) j ≡ word_in s j
  unfolding block_in
  sent_word_lem j = word_in-block s j

  sent-group : (g : ℕ) → sent_group (bit_at s) (4 * g) ≡ group_at s g
  sent-group g =
      rw (
        sent_word_lem (4 * g),
        sent_word_lem (4 * g + 1),
        sent_word_lem (4 * g + 2),
        sent_word_lem (4 * g + 3),
        add-zero (4 * g),
      )

  valid-sent : BlocksRight s → ValidBlocks (bit_at s) 0 (4 * groups_in s)
  unfolding block_in
  valid-sent right j from below = rw (sent_word_lem (4 * (j / 4) + 1)) (right j (omega arith))

  pub groups_heard_lem : GoodLength s → BlocksRight s
      → groups_heard fresh_of (bits_of s) ≡ sent_groups (bit_at s) 0 (groups_in s)
  groups_heard_lem long right =
      let bits : 8 * length s ≡ 26 * (4 * groups_in s) = omega (arith, long.whole) in
      heard-answered fresh_of (bits_of s)
      ∙ ap (λ (n : ℕ). answered_of fresh_of (bits_from (bit_at s) 0 n)) bits
      ∙ all-groups-answered (bit_at s) (bit_at_lt s) (groups_in s) (valid-sent right)

  -- ---- what each of the first n groups has, and what one of them passes

  module _ (P : Group → Type 0) where
    every_more : (gs : List Group) (g : Group) → Every P gs → P g → Every P (gs ++ g ∷ [])
    every_more [] g all p = (p, tt)
    every_more (h ∷ gs) g all p = (all.0, every_more gs g all.1 p)

    pub every_sent : (n : ℕ) → ((g : ℕ) → g < n → P (group_at s g)) → Every P (sent_groups (bit_at s) 0 n)
    unfolding sent_groups
    every_sent zero has = tt
    every_sent (suc n) has =
        every_more (sent_groups (bit_at s) 0 n) (sent_group (bit_at s) (4 * (0 + n)))
        (every_sent n (λ g l. has g (omega arith))) (rw (zero-add n, sent-group n) (has n (omega arith)))

  pub some_sent : (test : Group → Bool) (n g : ℕ) → g < n → test (group_at s g) ≡ true
      → some test (sent_groups (bit_at s) 0 n) ≡ true
  unfolding sent_groups
  some_sent test zero g l e = absurd (omega arith)
  some_sent test (suc n) g l e =
      some_more test (sent_group (bit_at s) (4 * (0 + n))) (sent_groups (bit_at s) 0 n)
      ∙ ⊎_elim last (λ m. either (test _) (some_sent test n g m e)) (eq-or-lt_of_le {n = g} {m = n} (omega arith))
    where
      either : (b : Bool) → some test (sent_groups (bit_at s) 0 n) ≡ true
          → cond b true (some test (sent_groups (bit_at s) 0 n)) ≡ true
      either true f = refl
      either false f = f

      last : g ≡ n → cond (test (sent_group (bit_at s) (4 * (0 + n)))) true (some test (sent_groups (bit_at s) 0 n)) ≡ true
      last same = rw (zero-add n, sent-group n, ← same, e)
