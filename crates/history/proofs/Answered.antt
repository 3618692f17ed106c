-- All groups that a receiver answers over a list of bits. To a stream of valid groups, fed from any of its blocks on,
-- they are just the groups that lie whole in what was fed, in order.
use Prim.Native.Nat.{ℕ, zero, suc, ◌+◌, ◌*◌, ◌-◌, ◌/◌, ◌%◌, ◌≤◌}
use mathlib.Core.Path.{◌≡◌, refl, sym, ap, ◌∙◌}
use mathlib.Core.List.{List, [], ◌∷◌, ◌++◌, append-nil, append_assoc}
use mathlib.Core.Logic.{⊎_elim}
use native.Mathlib.Nat.{eq-or-lt_of_le}
use Rattle.bits.proofs.Order.{lt-or-le}
use mathlib.Core.Bool.{Bool, true, false, cond, ◌&&◌, and-eq-true_iff, true≢false}
use native.Mathlib.Numerals.{add-one}
use native.Mathlib.Omega.{arith}
use lib.Dec.{eqb, leb}
use borrow.Author.Tests.{eq-eqb, le-leb, eqb-true, leb-true}
use Rattle.bits.specs.Spell.{Bits}
use Rattle.groups.specs.declared.Group.{Group}
use Rattle.receiver.specs.declared.Answer.{Answer}
use Rattle.receiver.specs.declared.Answer.TheVariants as answer
use Rattle.receiver.specs.declared.Receiver.{Receiver}
use Rattle.receiver.specs.Answers.{brings_group, group_of}
use Rattle.receiver.specs.Machine.{fresh_of, step_of, fed_of}
use Rattle.blocks.specs.Damage.{block_bits}
use Rattle.groups.specs.Group.{places}
use Rattle.history.specs.Streams.{bits_from, ValidBlocks, sent_group, sent_groups}
use Rattle.history.specs.Streams.{ends_group, sent_start, answer_at}
use Rattle.history.proofs.Streams.{stream_received}

-- ---- the groups that are answered

-- with one bit: a group or none
abbrev pub answered_with : Answer → List Group
answered_with said = cond (brings_group said) (group_of said ∷ []) []

-- with a list of bits, the first of them first
unfoldable pub answered_of : Receiver → List ℕ → List Group
answered_of r [] = []
answered_of r (bit ∷ bits) =
    answered_with (step_of r bit).answer ++ answered_of (step_of r bit).next bits

-- with one bit more
pub answered-more : (r : Receiver) (bits : List ℕ) (bit : ℕ)
    → answered_of r (bits ++ bit ∷ [])
    ≡ answered_of r bits ++ answered_with (step_of (fed_of r bits) bit).answer
unfolding answered_of fed_of
answered-more r [] bit = append-nil _
answered-more r (b ∷ bits) bit =
    ap (λ (l : List Group). answered_with (step_of r b).answer ++ l)
    (answered-more (step_of r b).next bits bit)
    ∙ sym (append_assoc (answered_with (step_of r b).answer) (answered_of (step_of r b).next bits) _)

-- ---- how many groups have ended

-- the first group that lies whole in what is fed from block s on, and how many of them have ended after k bits
abbrev pub first_group : ℕ → ℕ
first_group s = (s + 3) / places

abbrev pub ended_groups : ℕ → ℕ → ℕ
ended_groups s k = (s + k / block_bits) / places - first_group s

record Ends (s k : ℕ) : Type 0 where
  whole : k % 26 ≡ 0
  last : (s + k / 26) % 4 ≡ 0
  four : 4 ≤ k / 26

ends_is : (s k : ℕ) → ends_group s k ≡ true → Ends s k
unfolding ends_group
ends_is s k e =
    let outer = (and-eq-true_iff (eqb (k % 26) 0) (eqb ((s + k / 26) % 4) 0 && leb 4 (k / 26))).0 e in
    let inner = (and-eq-true_iff (eqb ((s + k / 26) % 4) 0) (leb 4 (k / 26))).0 outer.1 in
    record {
      whole = eqb-true (k % 26) 0 outer.0;
      last = eqb-true ((s + k / 26) % 4) 0 inner.0;
      four = leb-true 4 (k / 26) inner.1;
    }

is_ends : (s k : ℕ) → Ends s k → ends_group s k ≡ true
unfolding ends_group
is_ends s k ends =
    rw (eq-eqb (k % 26) 0 ends.whole, eq-eqb ((s + k / 26) % 4) 0 ends.last, le-leb 4 (k / 26) ends.four)

-- where one ends it is one more, and else as many as before
one_ended : (s k : ℕ) → Ends s (suc k) → ended_groups s (suc k) ≡ suc (ended_groups s k)
one_ended s k ends = omega arith

group_ended : (s k : ℕ) → Ends s (suc k) → sent_start s (suc k) ≡ 4 * (first_group s + ended_groups s k)
group_ended s k ends = omega arith

none_ended : (s k : ℕ) → (Ends s (suc k) → ⊥) → ended_groups s (suc k) ≡ ended_groups s k
none_ended s k none = ⊎_elim whole (λ inside. omega arith) (eq-or-lt_of_le {n = 0} {m = suc k % 26} (omega arith))
  where
    last : 0 ≡ suc k % 26 → 0 ≡ (s + suc k / 26) % 4 → ended_groups s (suc k) ≡ ended_groups s k
    last e l =
        ⊎_elim (λ few. omega arith) (λ four. absurd (none (record { whole = sym e; last = sym l; four = four })))
        (lt-or-le (suc k / 26) 4)

    whole : 0 ≡ suc k % 26 → ended_groups s (suc k) ≡ ended_groups s k
    whole e = ⊎_elim (last e) (λ before. omega arith) (eq-or-lt_of_le {n = 0} {m = (s + suc k / 26) % 4} (omega arith))

-- one bit answers the group that ends with it
answered-at : (f : ℕ → ℕ) (s k : ℕ)
    → sent_groups f (first_group s) (ended_groups s k) ++ answered_with (answer_at f s (suc k))
    ≡ sent_groups f (first_group s) (ended_groups s (suc k))
unfolding answer_at sent_groups
answered-at f s k = told (ends_group s (suc k)) refl (eqb (suc k) 52) refl
  where
    same : ends_group s (suc k) ≡ false
        → sent_groups f (first_group s) (ended_groups s k) ++ [] ≡ sent_groups f (first_group s) (ended_groups s (suc k))
    same e =
        append-nil _
        ∙ ap (sent_groups f (first_group s))
        (sym (none_ended s k (λ ends. true≢false (sym (is_ends s (suc k) ends) ∙ e))))

    told : (t : Bool) → ends_group s (suc k) ≡ t → (u : Bool) → eqb (suc k) 52 ≡ u
        → sent_groups f (first_group s) (ended_groups s k)
        ++ answered_with
        (cond u answer.Locked (cond t (answer.Group (sent_group f (sent_start s (suc k)))) answer.Nothing))
        ≡ sent_groups f (first_group s) (ended_groups s (suc k))
    told true e true l =
        let at : suc k ≡ 52 = eqb-true (suc k) 52 l in let ends = ends_is s (suc k) e in absurd (omega arith)
    told true e false l =
        let ends = ends_is s (suc k) e in rw (one_ended s k ends, group_ended s k ends)
    told false e true l = same e
    told false e false l = same e

-- ---- the law

module _ (f : ℕ → ℕ) (bits : Bits f) (s n : ℕ) (valid : ValidBlocks f s n) where
  -- after any number of the bits of n valid blocks from block s on
  pub groups_answered : (k : ℕ) → k ≤ block_bits * n
      → answered_of fresh_of (bits_from f (block_bits * s) k) ≡ sent_groups f (first_group s) (ended_groups s k)
  unfolding bits_from answered_of sent_groups
  groups_answered zero h =
      let none : ended_groups s 0 ≡ 0 = omega arith in rw none
  groups_answered (suc k) h =
      let received = stream_received f bits s n valid k h in
      answered-more fresh_of (bits_from f (26 * s) k) (f (26 * s + k))
      ∙ rw (groups_answered k (omega arith), received.0, add-one k) (answered-at f s k)

-- whole groups from the first bit on: all of them, in order
pub all-groups-answered : (f : ℕ → ℕ) → Bits f → (n : ℕ) → ValidBlocks f 0 (places * n)
    → answered_of fresh_of (bits_from f 0 (block_bits * (places * n))) ≡ sent_groups f 0 n
all-groups-answered f bits n valid =
    let count : ended_groups 0 (26 * (4 * n)) ≡ n = omega arith in
    rw count at (groups_answered f bits 0 (4 * n) valid (26 * (4 * n)) (omega arith))
