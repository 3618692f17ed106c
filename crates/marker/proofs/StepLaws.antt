-- How the marker's way through the groups gives the table's answer: at each exit the facts at hand, and the answer.
use Rattle.std.specs.Option.{option_or}
use Rattle.std.specs.Prelude.{Option, Some, None, Result, Ok, Err}
use Prim.Native.Nat.{ℕ, ◌+◌, ◌*◌, ◌^◌, ◌<◌, ◌≤◌}
use mathlib.Core.Path.{◌≡◌, refl, sym, ap, ◌∙◌}
use mathlib.Core.List.{List}
use mathlib.Core.Bool.{Bool, true, false, not, cond, ◌&&◌, ◌||◌}
use native.Mathlib.Decide.{ℕ_discrete}
use native.Mathlib.Nat.{add-zero, zero-add, zero-div}
use native.Mathlib.Numerals.{add-one}
use native.Mathlib.Omega.{arith}
use lib.Dec.{eqb}
use borrow.Author.Tests.{ne_eqb}
use Rattle.groups.specs.Header.{type_of, version_of}
use Rattle.groups.specs.Content.{switches_of, name_address, text_address, text_flag, content_of}
use Rattle.groups.specs.Written.{word_in}
use Rattle.groups.specs.declared.fields.Content.{Content}
use Rattle.groups.specs.declared.fields.Content.TheVariants.{Name0A, Name0B, Text2A, Text2B, Clock4A, Other}
use Rattle.keys.specs.Wanted.{addresses_of}
use Rattle.keys.proofs.WantedLaws.{addresses_most}
use Rattle.marker.specs.declared.Verdict.{Verdict}
use Rattle.marker.specs.declared.Verdict.TheVariants.{BadLength, BadBlock, BadHeader, BadContent}
use Rattle.marker.specs.First.{first, on_found}
use Rattle.marker.specs.Submission.{groups_in, word_at, content_at}
use Rattle.marker.specs.Tests.{length_wrong, header_wrong, header_wrong_at, content_wrong, is_2a, first_flag}
use Rattle.marker.specs.Tests.{group_wrong, brings, came}
use Rattle.marker.specs.Steps.{heading_of, step_of, held_after, has, mask_bits, missing_in}
use Rattle.marker.specs.Mark.{first_bad_block, first_bad_group, first_missing, group_mark, content_mark, submission_mark}
use borrow.Author.Count.{below_more}
use Rattle.marker.proofs.FirstLaws.{first_at, first_none, first_cong, first_more}

-- ---- one group

-- what reading a header says of it
module _ (k : List ℕ) (w1 w2 w3 w4 : ℕ) where
  pub header_right : (b : Bool) → b ≡ header_wrong k w1 w2 w3 → b ≡ false
      → (c : Content) → c ≡ content_of w2 w3 w4 → Some c ≡ heading_of k w1 w2 w3 w4
  unfolding heading_of
  header_right b e f c d = rw (← e, f, d)

  pub header_stop : (b : Bool) → b ≡ header_wrong k w1 w2 w3 → b ≡ true → None ≡ heading_of k w1 w2 w3 w4
  unfolding heading_of
  header_stop b e t = rw (← e, t)

  wrong-told : heading_of k w1 w2 w3 w4 ≡ None → header_wrong k w1 w2 w3 ≡ true
  unfolding heading_of
  wrong-told e = told (header_wrong k w1 w2 w3) refl
    where
      told : (b : Bool) → header_wrong k w1 w2 w3 ≡ b → header_wrong k w1 w2 w3 ≡ true
      told true t = t
      told false t =
          let h : Some (content_of w2 w3 w4) ≡ None = rw t at e in absurd
          (let z : ◌≡◌ {A = ℕ} 0 1 = cc in omega arith)

  carries-told : (c : Content) → heading_of k w1 w2 w3 w4 ≡ Some c
      → (header_wrong k w1 w2 w3 ≡ false) × (content_of w2 w3 w4 ≡ c)
  unfolding heading_of
  carries-told c e = told (header_wrong k w1 w2 w3) refl
    where
      told : (b : Bool) → header_wrong k w1 w2 w3 ≡ b → (header_wrong k w1 w2 w3 ≡ false) × (content_of w2 w3 w4 ≡ c)
      told true t =
          let h : None ≡ Some c = rw t at e in absurd (let z : ◌≡◌ {A = ℕ} 0 1 = cc in omega arith)
      told false t = let h : Some (content_of w2 w3 w4) ≡ Some c = rw t at e in (t, cc)

module _ (k s : List ℕ) (g w1 w2 w3 w4 : ℕ) (held : Option Bool) (h : Option Content)
    (one : w1 ≡ word_in s (4 * g)) (two : w2 ≡ word_in s (4 * g + 1))
    (three : w3 ≡ word_in s (4 * g + 2)) (four : w4 ≡ word_in s (4 * g + 3)) (read : h ≡ heading_of k w1 w2 w3 w4) where
  header_at : header_wrong k w1 w2 w3 ≡ header_wrong_at k s g
  header_at = rw (one, two, three, add-zero (4 * g))

  content-at : content_of w2 w3 w4 ≡ content_at s g
  content-at = rw (two, three, four)

  pub step_header : h ≡ None → Err (BadHeader g) ≡ step_of k s g held
  unfolding step_of
  step_header e = rw (← header_at, wrong-told k w1 w2 w3 w4 (sym read ∙ e))

  module _ (c : Content) (e : h ≡ Some c) (b : Bool) (f : b ≡ content_wrong k held c) where
    told_at : (header_wrong_at k s g ≡ false) × (content_at s g ≡ c)
    told_at =
        let t = carries-told k w1 w2 w3 w4 c (sym read ∙ e) in (sym header_at ∙ t.0, sym content-at ∙ t.1)

    pub step_content : b ≡ true → Err (BadContent g) ≡ step_of k s g held
    unfolding step_of
    step_content t = rw (told_at.0, told_at.1, ← f, t)

    pub step_right : b ≡ false → Ok c ≡ step_of k s g held
    unfolding step_of
    step_right t = rw (told_at.0, told_at.1, ← f, t)

-- ---- group by group

-- only a 2A has a flag
pub no-flag : (c : Content) → ((flag : Bool) (a one two : ℕ) → c ≡ Text2A flag a one two → ⊥) → None ≡ held_after None c
unfolding held_after
no-flag (Name0A switches a af pair) f = refl
no-flag (Name0B switches a pair) f = refl
no-flag (Text2A flag a one two) f = absurd (f flag a one two refl)
no-flag (Text2B flag a pair) f = refl
no-flag Clock4A f = refl
no-flag Other f = refl

-- a flag that is held stays
pub held_or : (held : Option Bool) (c : Content) → option_or held (held_after None c) ≡ held_after held c
unfolding held_after
held_or None c = refl
held_or (Some flag) c = refl

-- the first 2A among one group more
flag_content : (w2 w3 w4 : ℕ)
    → held_after None (content_of w2 w3 w4) ≡ cond (eqb (type_of w2) 2 && eqb (version_of w2) 0)
    (Some (text_flag w2)) None
unfolding held_after content_of
flag_content w2 w3 w4 = told (ℕ_discrete (type_of w2) 0)
  where
    both : (b d v : Bool) → held_after None (cond b
        (cond v (Text2A (text_flag w2) (text_address w2) w3 w4) (Text2B (text_flag w2) (text_address w2) w4))
        (cond d (cond v Clock4A Other) Other)) ≡ cond (b && v) (Some (text_flag w2)) None
    both true d true = refl
    both true d false = refl
    both false true true = refl
    both false true false = refl
    both false false v = refl

    named : (v : Bool) → held_after None (cond v
        (Name0A (switches_of w2) (name_address w2) w3 w4) (Name0B (switches_of w2) (name_address w2) w4)) ≡ None
    named true = refl
    named false = refl

    told : Dec (type_of w2 ≡ 0) → held_after None (content_of w2 w3 w4)
        ≡ cond (eqb (type_of w2) 2 && eqb (version_of w2) 0) (Some (text_flag w2)) None
    told (yes e) = rw e (named (eqb (version_of w2) 0))
    told (no f) = rw (ne_eqb (type_of w2) 0 f) (both (eqb (type_of w2) 2) (eqb (type_of w2) 4) (eqb (version_of w2) 0))

pub flag-begin : (s : List ℕ) → None ≡ first_flag s 0
unfolding first_flag first
flag-begin s = refl

pub flag-more : (s : List ℕ) (g : ℕ) → held_after (first_flag s g) (content_at s g) ≡ first_flag s (g + 1)
unfolding first_flag is_2a held_after
flag-more s g =
    rw (add-one g, first_more (is_2a s) 0 g, zero-add g) (told (first (is_2a s) 0 g))
  where
    said : ℕ → Option Bool
    said h = Some (text_flag (word_at s h 1))

    told : (f : Option ℕ) → held_after (on_found f said None) (content_at s g)
        ≡ on_found (on_found f Some (cond (is_2a s g) (Some g) None)) said None
    told (Some h) = refl
    told None = flag_content (word_at s g 1) (word_at s g 2) (word_at s g 3) ∙ also (is_2a s g)
      where
        also : (b : Bool) → cond b (said g) None ≡ on_found (cond b (Some g) None) said None
        also true = refl
        also false = refl

module _ (k s : List ℕ) (g n : ℕ) (held : Option Bool) (t : Result Content Verdict)
    (some : g < n) (all : n ≡ groups_in s)
    (right : (h : ℕ) → h < g → group_wrong k s h ≡ false) (first_2A : held ≡ first_flag s g)
    (step : t ≡ step_of k s g held) where
  -- the header and the content of the group, and the answer that it gets
  step-told : t ≡ cond (header_wrong_at k s g) (Err (BadHeader g))
      (cond (content_wrong k (first_flag s g) (content_at s g)) (Err (BadContent g)) (Ok (content_at s g)))
  unfolding step_of
  step-told = step ∙ rw first_2A

  bad-group : group_wrong k s g ≡ true → Some g ≡ first_bad_group k s
  unfolding first_bad_group
  bad-group w =
      sym (first_at (group_wrong k s) 0 (groups_in s) g
      (record { from = omega arith; below = omega arith; here = w; before = λ h a b. right h b }))

  pub content_stop : (v : Verdict) → t ≡ Err v → v ≡ content_mark k s
  unfolding content_mark group_mark group_wrong
  content_stop v e = told (header_wrong_at k s g) refl (content_wrong k (first_flag s g) (content_at s g)) refl
    where
      told : (a : Bool) → header_wrong_at k s g ≡ a → (b : Bool) → content_wrong k (first_flag s g) (content_at s g) ≡ b
          → v ≡ content_mark k s
      told true x b y =
          let h : ◌≡◌ {A = Result Content Verdict} (Err (BadHeader g)) (Err v) = rw x at (sym step-told ∙ e) in
          let w : BadHeader g ≡ v = cc in
          rw (← bad-group (rw x), x) (sym w)
      told false x true y =
          let h : ◌≡◌ {A = Result Content Verdict} (Err (BadContent g)) (Err v) = rw (x, y) at (sym step-told ∙ e) in
          let w : BadContent g ≡ v = cc in
          rw (← bad-group (rw (x, y)), x) (sym w)
      told false x false y =
          let h : Ok (content_at s g) ≡ Err v = rw (x, y) at (sym step-told ∙ e) in
          absurd (let z : ◌≡◌ {A = ℕ} 0 1 = cc in omega arith)

  module _ (c : Content) (e : t ≡ Ok c) where
    right-told : (group_wrong k s g ≡ false) × (content_at s g ≡ c)
    unfolding group_wrong
    right-told = told (header_wrong_at k s g) refl (content_wrong k (first_flag s g) (content_at s g)) refl
      where
        told : (a : Bool) → header_wrong_at k s g ≡ a → (b : Bool) → content_wrong k (first_flag s g) (content_at s g) ≡ b
            → (group_wrong k s g ≡ false) × (content_at s g ≡ c)
        told true x b y =
            let h : Err (BadHeader g) ≡ Ok c = rw x at (sym step-told ∙ e) in
            absurd (let z : ◌≡◌ {A = ℕ} 0 1 = cc in omega arith)
        told false x true y =
            let h : Err (BadContent g) ≡ Ok c = rw (x, y) at (sym step-told ∙ e) in
            absurd (let z : ◌≡◌ {A = ℕ} 0 1 = cc in omega arith)
        told false x false y =
            let h : ◌≡◌ {A = Result Content Verdict} (Ok (content_at s g)) (Ok c) = rw (x, y) at (sym step-told ∙ e) in
            (rw (x, y), cc)

    pub right_content : content_at s g ≡ c
    right_content = right-told.1

    pub content_go : (h : ℕ) → h < g + 1 → group_wrong k s h ≡ false
    content_go = below_more _ _ right right-told.0

    pub held_go : (h : Option Bool) → h ≡ held_after held c → h ≡ first_flag s (g + 1)
    held_go h f = f ∙ rw (first_2A, ← right-told.1) (flag-more s g)

-- the addresses that came
pub seen-begin : (s : List ℕ) (a : ℕ) → a < mask_bits → has 0 a ≡ came s 0 a
unfolding has came
seen-begin s a l = rw (zero-div (2 ^ a))

pub seen_go : (s : List ℕ) (g mask more : ℕ) (c : Content) → content_at s g ≡ c
    → ((a : ℕ) → a < mask_bits → has mask a ≡ came s g a)
    → ((a : ℕ) → a < mask_bits → has more a ≡ (has mask a || brings c a))
    → (a : ℕ) → a < mask_bits → has more a ≡ came s (g + 1) a
unfolding came
seen_go s g mask more c e seen also a l = also a l ∙ rw (add-one g, seen a l, e)

-- after the last group
pub content-end : (k s : List ℕ) (g n mask : ℕ) (v : Verdict) → n ≡ groups_in s → g ≤ n → n ≤ g
    → ((h : ℕ) → h < g → group_wrong k s h ≡ false)
    → ((a : ℕ) → a < mask_bits → has mask a ≡ came s g a) → v ≡ missing_in k mask → v ≡ content_mark k s
unfolding content_mark first_bad_group first_missing missing_in
content-end k s g n mask v all most least right seen e =
    let end : g ≡ n = omega arith in
    let none : first (group_wrong k s) 0 (groups_in s) ≡ None =
    first_none (group_wrong k s) 0 (groups_in s) (λ h a b. right h (omega arith)) in
    let same : first (λ a. not (has mask a)) 0 (addresses_of k) ≡ first (λ a. not (came s (groups_in s) a)) 0
    (addresses_of k) =
    first_cong _ _ 0 (addresses_of k)
    (λ a _ l. ap not (seen a (omega (arith, addresses_most k)) ∙ ap (λ (m : ℕ). came s m a) (end ∙ all))) in
    e ∙ rw (none, same)

-- ---- a submission

module _ (k s : List ℕ) (b : Bool) (e : b ≡ length_wrong s) where
  pub submission_length : b ≡ true → BadLength ≡ submission_mark k s
  unfolding submission_mark
  submission_length t = rw (← e, t)

  module _ (t : b ≡ false) (f : Option ℕ) (found : f ≡ first_bad_block s) where
    pub submission_block : (j : ℕ) → f ≡ Some j → BadBlock j ≡ submission_mark k s
    unfolding submission_mark
    submission_block j a = rw (← e, t, ← found, a)

    pub submission_content : (v : Verdict) → f ≡ None → v ≡ content_mark k s → v ≡ submission_mark k s
    unfolding submission_mark
    submission_content v a d = rw (← e, t, ← found, a) d
