-- Each test of the table says no exactly if its rule holds. Every test is taken apart into its parts, and each part
-- is turned into the fact that the rule states.
use Rattle.std.specs.Prelude.{Option, Some, None}
use Prim.Native.Nat.{ℕ, zero, suc, ◌+◌, ◌*◌, ◌/◌, ◌%◌, ◌<◌, ◌≤◌}
use mathlib.Core.Path.{◌≡◌, refl, sym, ap, subst, ◌∙◌}
use mathlib.Core.List.{List}
use mathlib.Core.Bool.{Bool, true, false, not, cond, beq, true≢false, and-eq-true_iff, and-false}
use mathlib.Core.Bool.{or-true}
use mathlib.Core.Logic.{◌⊎◌, inl, inr, ⊎_elim}
use mathlib.Mathlib.Data.Bool.Basic.{or-eq-false-eq-eq-false-and-eq-false as or-none}
use native.Mathlib.Decide.{ℕ_discrete}
use native.Mathlib.Nat.{eq-or-lt_of_le, le_of_suc-le-suc, not-suc-le-zero}
use native.Mathlib.Omega.{arith}
use lib.ListN.{length}
use lib.Dec.{eqb}
use borrow.Author.Tests.{eqb-true, eqb-false, eq-eqb, ne_eqb, ltb-false, le-ltb, not-false}
use Rattle.bits.proofs.Order.{lt-or-le}
use Rattle.blocks.specs.Block.{valid}
use Rattle.blocks.proofs.Validity.{valid_true, true-valid}
use Rattle.groups.specs.Header.{type_of, version_of, tp_of as tp_in, pty_of as pty_in}
use Rattle.groups.specs.Content.{name_address, text_address, text_flag, content_of}
use Rattle.groups.specs.Written.{group_size, block_in}
use Rattle.groups.specs.declared.fields.Content.TheVariants.{Text2A, Text2B, Clock4A, Other}
use Rattle.groups.proofs.Contents.{content_0A, content_0B, content_2A, content_2B}
use Rattle.keys.specs.Fields.{pi_of, pty_of, tp_of, name_pair_of, text_pair_of}
use Rattle.keys.specs.Wanted.{wanted_address}
use Rattle.marker.specs.First.{first}
use Rattle.marker.specs.Submission.{word_at, kind_at, content_at}
use Rattle.marker.specs.Tests.{empty_length, submission_limit, length_wrong, block_wrong, header_wrong}
use Rattle.marker.specs.Tests.{header_wrong_at, text_at, unlike, name_wrong}
use Rattle.marker.specs.Tests.{text_wrong, content_wrong, content_wrong_at, is_2a, first_flag, group_wrong, brings, came}
use Rattle.marker.specs.Rules.{GoodLength, BlockRight, IsName, Is2A, Is2B, First2A, HeaderRight, ContentRight}
use Rattle.marker.specs.Rules.{SameFlag, GroupRight}
use Rattle.marker.specs.Rules.{Brings, name, text}
use Rattle.marker.proofs.FirstLaws.{Spot, first_at, at_first}

-- the version is 0 or 1
version_is : (w : ℕ) → (version_of w ≡ 0) ⊎ (version_of w ≡ 1)
version_is w = ⊎_elim (λ l. inl (omega arith)) (λ l. inr (omega arith)) (lt-or-le (version_of w) 1)

-- two bools that are found equal are
pub beq_true : (a b : Bool) → beq a b ≡ true → a ≡ b
beq_true true true e = refl
beq_true false false e = refl
beq_true true false e = absurd (true≢false (sym e))
beq_true false true e = absurd (true≢false (sym e))

pub beq_same : (a : Bool) → beq a a ≡ true
beq_same true = refl
beq_same false = refl

-- ---- the length

pub length_right : (s : List ℕ) → length_wrong s ≡ false → GoodLength s
unfolding length_wrong
length_right s e =
    let a = (or-none (eqb (length s) empty_length) _).0 e in
    let b = (or-none (not (eqb (length s % group_size) 0)) _).0 a.1 in
    let some : length s ≡ empty_length → ⊥ = eqb-false (length s) empty_length a.0 in
    let whole : length s % group_size ≡ 0 = eqb-true (length s % group_size) 0 (not-false _ b.0) in
    let few : length s ≤ submission_limit = ltb-false submission_limit (length s) b.1 in
    record { groups = length s / group_size; whole = omega arith; some = omega arith; few = few }

pub right-length : (s : List ℕ) → GoodLength s → length_wrong s ≡ false
unfolding length_wrong
right-length s r =
    rw (
      ne_eqb (length s) empty_length (λ z. omega arith),
      eq-eqb (length s % group_size) 0 (omega arith),
      le-ltb submission_limit (length s) (omega arith),
    )

-- ---- a block

module _ (s : List ℕ) (j : ℕ) where
  pub right_block : BlockRight s j → block_wrong s j ≡ false
  unfolding block_wrong
  right_block v = ap not (valid_true (kind_at s j) (block_in s j) v)

  pub block_right : block_wrong s j ≡ false → BlockRight s j
  unfolding block_wrong
  block_right e = true-valid (kind_at s j) (block_in s j) (not-false (valid (kind_at s j) (block_in s j)) e)

-- ---- a header

module _ (k s : List ℕ) (g : ℕ) where
  pub header_right : header_wrong_at k s g ≡ false → HeaderRight k s g
  unfolding header_wrong
  header_right e =
      let a = (or-none (not (eqb (word_at s g 0) (pi_of k))) _).0 e in
      let b = (or-none (not (beq (eqb (tp_in (word_at s g 1)) 1) (tp_of k))) _).0 a.1 in
      let c = (or-none (not (eqb (pty_in (word_at s g 1)) (pty_of k))) _).0 b.1 in
      record {
        pi = eqb-true (word_at s g 0) (pi_of k) (not-false _ a.0);
        tp = beq_true (eqb (tp_in (word_at s g 1)) 1) (tp_of k) (not-false _ b.0);
        pty = eqb-true (pty_in (word_at s g 1)) (pty_of k) (not-false _ c.0);
        third = λ v. eqb-true (word_at s g 2) (pi_of k) (not-false _ (rw v at c.1));
      }

  pub right_header : HeaderRight k s g → header_wrong_at k s g ≡ false
  unfolding header_wrong
  right_header r =
      rw (
        eq-eqb (word_at s g 0) (pi_of k) r.pi,
        r.tp,
        beq_same (tp_of k),
        eq-eqb (pty_in (word_at s g 1)) (pty_of k)
            r.pty,
      )
      (⊎_elim (λ v. rw v) (λ v. rw (eq-eqb (word_at s g 2) (pi_of k) (r.third v))
      (and-false (eqb (version_of (word_at s g 1)) 1))) (version_is (word_at s g 1)))

-- ---- what a group carries

module _ (s : List ℕ) (g : ℕ) where
  pub is_2A : is_2a s g ≡ true → Is2A s g
  unfolding is_2a
  is_2A e =
      let b = (and-eq-true_iff (eqb (type_of (word_at s g 1)) 2) _).0 e in
      (eqb-true (type_of (word_at s g 1)) 2 b.0, eqb-true (version_of (word_at s g 1)) 0 b.1)

  pub a_2A_is : Is2A s g → is_2a s g ≡ true
  unfolding is_2a
  a_2A_is t = rw (eq-eqb (type_of (word_at s g 1)) 2 t.0, eq-eqb (version_of (word_at s g 1)) 0 t.1)

  pub not_2A : is_2a s g ≡ false → Is2A s g → ⊥
  not_2A e t = true≢false (sym (a_2A_is t) ∙ e)

  pub no_2A : (Is2A s g → ⊥) → is_2a s g ≡ false
  no_2A f = told (is_2a s g) refl
    where
      told : (b : Bool) → is_2a s g ≡ b → is_2a s g ≡ false
      told true e = absurd (f (is_2A e))
      told false e = e

  carries_2A : Is2A s g
      → content_at s g ≡ Text2A (text_flag (word_at s g 1)) (text_address (word_at s g 1)) (word_at s g 2) (word_at s g 3)
  carries_2A t = content_2A (word_at s g 1) (word_at s g 2) (word_at s g 3) (omega (arith, t.0, t.1))

  carries_2B : Is2B s g
      → content_at s g ≡ Text2B (text_flag (word_at s g 1)) (text_address (word_at s g 1)) (word_at s g 3)
  carries_2B t = content_2B (word_at s g 1) (word_at s g 2) (word_at s g 3) (omega (arith, t.0, t.1))

  -- it is a name group, a 2A, a 2B, or it carries nothing that is marked
  pub data Carried : Type 0 where
    a-name : IsName s g → Carried
    a_2A : Is2A s g → Carried
    a_2B : Is2B s g → Carried
    a-clock : (IsName s g → ⊥) → (Is2A s g → ⊥) → content_at s g ≡ Clock4A → Carried
    another : (IsName s g → ⊥) → (Is2A s g → ⊥) → content_at s g ≡ Other → Carried

  pub carried : Carried
  unfolding content_of
  carried = told (ℕ_discrete (type_of (word_at s g 1)) 0) (ℕ_discrete (type_of (word_at s g 1)) 2)
    where
      rest : (n : type_of (word_at s g 1) ≡ 0 → ⊥) (t : type_of (word_at s g 1) ≡ 2 → ⊥) (a b : Bool)
          → content_at s g ≡ cond a (cond b Clock4A Other) Other → Carried
      rest n t true true e = a-clock n (λ x. t x.0) e
      rest n t true false e = another n (λ x. t x.0) e
      rest n t false b e = another n (λ x. t x.0) e

      told : Dec (type_of (word_at s g 1) ≡ 0) → Dec (type_of (word_at s g 1) ≡ 2) → Carried
      told (yes n) d = a-name n
      told (no n) (yes t) = ⊎_elim (λ v. a_2A (t, v)) (λ v. a_2B (t, v)) (version_is (word_at s g 1))
      told (no n) (no t) =
          rest n t (eqb (type_of (word_at s g 1)) 4) (eqb (version_of (word_at s g 1)) 0)
          (rw (ne_eqb (type_of (word_at s g 1)) 0 n, ne_eqb (type_of (word_at s g 1)) 2 t))

-- ---- the flag

module _ (s : List ℕ) (g : ℕ) (t : Is2A s g) where
  flag-right : unlike (first_flag s g) (text_flag (word_at s g 1)) ≡ false
      → (h : ℕ) → First2A s h → SameFlag s g h
  unfolding first_flag unlike
  flag-right e h f = ⊎_elim before (λ l. ⊎_elim same after (eq-or-lt_of_le l)) (lt-or-le h g)
    where
      before : h < g → SameFlag s g h
      before l =
          let spot : Spot (is_2a s) 0 g h =
          record {
            from = omega arith;
            below = omega arith;
            here = a_2A_is s h f.0;
            before = λ q _ m. no_2A s q (f.1 q m);
          } in
          beq_true (text_flag (word_at s g 1)) (text_flag (word_at s h 1))
          (not-false _ (rw (first_at (is_2a s) 0 g h spot) at e))

      same : g ≡ h → SameFlag s g h
      same d = ap (λ (i : ℕ). text_flag (word_at s i 1)) d

      after : g < h → SameFlag s g h
      after l = absurd (f.1 g l t)

  right-flag : ((h : ℕ) → First2A s h → SameFlag s g h)
      → unlike (first_flag s g) (text_flag (word_at s g 1)) ≡ false
  unfolding first_flag unlike
  right-flag r = told (first (is_2a s) 0 g) refl
    where
      told : (f : Option ℕ) → first (is_2a s) 0 g ≡ f → unlike (first_flag s g) (text_flag (word_at s g 1)) ≡ false
      told (Some h) e =
          let spot = at_first (is_2a s) 0 g h e in
          let f : First2A s h = (is_2A s h spot.here, λ q m. not_2A s q (spot.before q (omega arith) m)) in
          rw (e, r h f, beq_same (text_flag (word_at s h 1)))
      told None e = rw e

-- ---- the content

module _ (k s : List ℕ) (g : ℕ) where
  carries-name : IsName s g → content_wrong_at k s g ≡ name_wrong k (name_address (word_at s g 1)) (word_at s g 3)
  unfolding content_wrong
  carries-name n =
      ⊎_elim (λ v. rw (content_0A (word_at s g 1) (word_at s g 2) (word_at s g 3) (omega (arith, n, v))))
      (λ v. rw (content_0B (word_at s g 1) (word_at s g 2) (word_at s g 3) (omega (arith, n, v))))
      (version_is (word_at s g 1))

  carries-text : Is2A s g → content_wrong_at k s g
      ≡ text_wrong k (first_flag s g) (text_flag (word_at s g 1)) (text_address (word_at s g 1)) (word_at s g 2) (word_at s g 3)
  unfolding content_wrong
  carries-text t = rw (carries_2A s g t)

  pub content_right : content_wrong_at k s g ≡ false → ContentRight k s g
  unfolding name_wrong text_wrong content_wrong
  content_right e =
      let parts : Is2A s g → _ = λ t. (or-none (not (wanted_address k (text_at (text_address (word_at s g 1))))) _).0
      (sym (carries-text t) ∙ e) in
      let more : (t : Is2A s g) → _ = λ t. (or-none
      (not (eqb (word_at s g 2) (text_pair_of k (2 * text_address (word_at s g 1))))) _).0 (parts t).1 in
      let last : (t : Is2A s g) → _ = λ t. (or-none
      (not (eqb (word_at s g 3) (text_pair_of k (2 * text_address (word_at s g 1) + 1)))) _).0 (more t).1 in
      record {
        name = λ n. eqb-true (word_at s g 3) (name_pair_of k (name_address (word_at s g 1)))
            (not-false _ (sym (carries-name n) ∙ e));
        text = λ t. (
          eqb-true (word_at s g 2) (text_pair_of k (2 * text_address (word_at s g 1))) (not-false _ (more t).0),
          eqb-true (word_at s g 3) (text_pair_of k (2 * text_address (word_at s g 1) + 1)) (not-false _ (last t).0),
        );
        wanted = λ t. not-false _ (parts t).0;
        no_2B = λ t. true≢false (rw (carries_2B s g t) at e);
        flag = λ t. flag-right s g t (last t).1;
      }

  pub right_content : ContentRight k s g → content_wrong_at k s g ≡ false
  unfolding name_wrong text_wrong content_wrong
  right_content r = told (carried s g)
    where
      told : Carried s g → content_wrong_at k s g ≡ false
      told (a-name n) = carries-name n ∙ rw (eq-eqb (word_at s g 3) (name_pair_of k (name_address (word_at s g 1)))
          (r.name n))
      told (a_2A t) =
          carries-text t
          ∙ rw (
            r.wanted t,
            eq-eqb (word_at s g 2) (text_pair_of k (2 * text_address (word_at s g 1))) (r.text t).0,
            eq-eqb (word_at s g 3) (text_pair_of k (2 * text_address (word_at s g 1) + 1)) (r.text t).1,
            right-flag s g t (r.flag t),
          )
      told (a_2B t) = absurd (r.no_2B t)
      told (a-clock n t e) = rw e
      told (another n t e) = rw e

  pub group_right : group_wrong k s g ≡ false → GroupRight k s g
  unfolding group_wrong
  group_right e =
      let b = (or-none (header_wrong_at k s g) _).0 e in (header_right k s g b.0, content_right b.1)

  pub right_group : GroupRight k s g → group_wrong k s g ≡ false
  unfolding group_wrong
  right_group r = rw (right_header k s g r.0, right_content r.1)

-- ---- the addresses

module _ (s : List ℕ) (g a : ℕ) where
  name-brings : IsName s g → brings (content_at s g) a ≡ eqb (name_address (word_at s g 1)) a
  unfolding brings
  name-brings n =
      ⊎_elim (λ v. rw (content_0A (word_at s g 1) (word_at s g 2) (word_at s g 3) (omega (arith, n, v))))
      (λ v. rw (content_0B (word_at s g 1) (word_at s g 2) (word_at s g 3) (omega (arith, n, v))))
      (version_is (word_at s g 1))

  text-brings : Is2A s g → brings (content_at s g) a ≡ eqb (text_at (text_address (word_at s g 1))) a
  unfolding brings
  text-brings t = rw (carries_2A s g t)

  pub brings_it : brings (content_at s g) a ≡ true → Brings s g a
  unfolding brings
  brings_it e = told (carried s g)
    where
      told : Carried s g → Brings s g a
      told (a-name n) = name n (eqb-true (name_address (word_at s g 1)) a (sym (name-brings n) ∙ e))
      told (a_2A t) = text t (eqb-true (text_at (text_address (word_at s g 1))) a (sym (text-brings t) ∙ e))
      told (a_2B t) = absurd (true≢false (sym (rw (carries_2B s g t) at e)))
      told (a-clock n t c) = absurd (true≢false (sym (rw c at e)))
      told (another n t c) = absurd (true≢false (sym (rw c at e)))

  pub it_brings : Brings s g a → brings (content_at s g) a ≡ true
  it_brings (name n e) = name-brings n ∙ eq-eqb (name_address (word_at s g 1)) a e
  it_brings (text t e) = text-brings t ∙ eq-eqb (text_at (text_address (word_at s g 1))) a e

-- address a came among the first n groups
pub came-some : (s : List ℕ) (n a : ℕ) → came s n a ≡ true → (g : ℕ) × (g < n) × Brings s g a
unfolding came
came-some s zero a e = absurd (true≢false (sym e))
came-some s (suc n) a e = told (came s n a) refl (λ t. came-some s n a t)
  where
    told : (b : Bool) → came s n a ≡ b → (came s n a ≡ true → (g : ℕ) × (g < n) × Brings s g a)
        → (g : ℕ) × (g < suc n) × Brings s g a
    told true t rest = let r = rest t in (r.0, omega (arith, r.1), r.2)
    told false t rest = (n, omega arith, brings_it s n a (rw t at e))

pub some-came : (s : List ℕ) (n a g : ℕ) → g < n → Brings s g a → came s n a ≡ true
unfolding came
some-came s zero a g l b = absurd (not-suc-le-zero l)
some-came s (suc n) a g l b =
    ⊎_elim (λ e. rw (it_brings s n a (subst (λ (h : ℕ). Brings s h a) e b)) (or-true (came s n a)))
    (λ m. rw (some-came s n a g m b)) (eq-or-lt_of_le (le_of_suc-le-suc l))
