-- TA, M/S, DI and AF are not marked: two submissions that are alike but for these get the same answer. Each test says
-- the same of both, so each search finds the same place.
use Rattle.std.specs.Prelude.{Option, Some, None}
use Prim.Native.Nat.{ℕ, zero, suc, ◌*◌, ◌/◌, ◌%◌, ◌^◌, ◌<◌, ◌≤◌}
use mathlib.Core.Path.{◌≡◌, refl, sym, ap, ◌∙◌}
use mathlib.Core.List.{List}
use mathlib.Core.Bool.{Bool, true, false, not, ◌&&◌, ◌||◌, beq, true≢false}
use native.Mathlib.Decide.{ℕ_discrete}
use native.Mathlib.Omega.{arith}
use lib.Dec.{eqb}
use Rattle.groups.specs.Header.{type_of, version_of, tp_of as tp_in, pty_of as pty_in}
use Rattle.groups.specs.Content.{text_flag}
use Rattle.groups.specs.declared.fields.Content.{Content}
use Rattle.groups.specs.declared.fields.Content.TheVariants.{Name0A, Name0B}
use Rattle.groups.specs.declared.fields.Switches.{Switches}
use Rattle.groups.proofs.Contents.{content_0A, content_0B}
use Rattle.keys.specs.Sheet.{key_at}
use Rattle.keys.specs.Fields.{pi_of, pty_of, tp_of}
use Rattle.keys.specs.Wanted.{addresses_of}
use Rattle.marker.specs.declared.Verdict.{Verdict}
use Rattle.marker.specs.declared.Verdict.TheVariants.{Passed, Missing}
use Rattle.marker.specs.First.{first, on_found}
use Rattle.marker.specs.Submission.{groups_in, blocks_in, word_at, content_at}
use Rattle.marker.specs.Tests.{length_wrong, block_wrong, header_wrong, header_wrong_at, content_wrong}
use Rattle.marker.specs.Tests.{is_2a, first_flag, group_wrong, brings, came}
use Rattle.marker.specs.Mark.{first_bad_block, first_bad_group, first_missing, group_mark, content_mark}
use Rattle.marker.specs.Mark.{submission_mark, mark_of}
use Rattle.marker.specs.Unmarked.{GroupAlike, Alike}
use Rattle.marker.proofs.FirstLaws.{first_cong, at_first}
use Rattle.marker.proofs.RuleLaws.{right_block, block_right, is_2A}

-- a test of what a group carries that does not look at what is unmarked
pub record Blind (f : Content → Bool) : Type 0 where
  pub of_0A : (v w : Switches) (a x y z : ℕ) → f (Name0A v a x z) ≡ f (Name0A w a y z)
  pub of_0B : (v w : Switches) (a z : ℕ) → f (Name0B v a z) ≡ f (Name0B w a z)

content_blind : (k : List ℕ) (held : Option Bool) → Blind (content_wrong k held)
unfolding content_wrong
content_blind k held = record { of_0A = λ v w a x y z. refl; of_0B = λ v w a z. refl }

brings_blind : (a : ℕ) → Blind (λ c. brings c a)
unfolding brings
brings_blind a = record { of_0A = λ v w b x y z. refl; of_0B = λ v w b z. refl }

-- ---- one group

module _ (s t : List ℕ) (g : ℕ) (alike : GroupAlike s t g) where
  type-alike : type_of (word_at s g 1) ≡ type_of (word_at t g 1)
  type-alike = omega (arith, alike.word_2_high)

  version-alike : version_of (word_at s g 1) ≡ version_of (word_at t g 1)
  version-alike = omega (arith, alike.word_2_high)

  content-alike : (f : Content → Bool) → Blind f → f (content_at s g) ≡ f (content_at t g)
  content-alike f blind = told (ℕ_discrete (type_of (word_at s g 1)) 0) (ℕ_discrete (version_of (word_at s g 1)) 0)
    where
      told : Dec (type_of (word_at s g 1) ≡ 0) → Dec (version_of (word_at s g 1) ≡ 0) → f (content_at s g) ≡ f
          (content_at t g)
      told (yes n) (yes v) =
          rw (
            content_0A (word_at s g 1) (word_at s g 2) (word_at s g 3) (omega arith),
            content_0A (word_at t g 1) (word_at t g 2) (word_at t g 3) (omega (arith, type-alike, version-alike)),
            alike.word_2_low,
            alike.word_4,
          )
          (blind.of_0A _ _ _ _ _ _)
      told (yes n) (no v) =
          rw (
            content_0B (word_at s g 1) (word_at s g 2) (word_at s g 3) (omega arith),
            content_0B (word_at t g 1) (word_at t g 2) (word_at t g 3) (omega (arith, type-alike, version-alike)),
            alike.word_2_low,
            alike.word_4,
          )
          (blind.of_0B _ _ _ _)
      told (no n) d = rw (alike.word_2 n, alike.word_3 (λ x v. n x), alike.word_4)

  header-alike : (k : List ℕ) → header_wrong_at k s g ≡ header_wrong_at k t g
  unfolding header_wrong
  header-alike k =
      let tp : word_at s g 1 / 2 ^ 10 % 2 ≡ word_at t g 1 / 2 ^ 10 % 2 = omega (arith, alike.word_2_high) in
      let pty : pty_in (word_at s g 1) ≡ pty_in (word_at t g 1) = omega (arith, alike.word_2_high) in
      rw (alike.word_1, tp, pty, version-alike) (told (ℕ_discrete (version_of (word_at t g 1)) 0))
    where
      told : Dec (version_of (word_at t g 1) ≡ 0)
          → (not (eqb (word_at t g 0) (pi_of k)) || (not (beq (eqb (tp_in (word_at t g 1)) 1) (tp_of k))
          || (not (eqb (pty_in (word_at t g 1)) (pty_of k)) || eqb (version_of (word_at t g 1)) 1 && not
          (eqb (word_at s g 2) (pi_of k)))))
          ≡ header_wrong_at k t g
      told (yes v) = rw v
      told (no v) = rw (alike.word_3 (λ x z. v (sym version-alike ∙ z)))

  is_2A_alike : is_2a s g ≡ is_2a t g
  unfolding is_2a
  is_2A_alike = rw (type-alike, version-alike)

  flag-alike : is_2a s g ≡ true → text_flag (word_at s g 1) ≡ text_flag (word_at t g 1)
  flag-alike e = let a = is_2A s g e in rw (alike.word_2 (λ n. omega (arith, n, a.0)))

-- ---- all groups

module _ (s t : List ℕ) (alike : Alike s t) where
  first_alike : (g : ℕ) → g ≤ groups_in s → first_flag s g ≡ first_flag t g
  unfolding first_flag
  first_alike g l =
      rw (← first_cong (is_2a s) (is_2a t) 0 g (λ q _ m. is_2A_alike s t q (alike.group q (omega arith))))
      (told (first (is_2a s) 0 g) refl)
    where
      told : (f : Option ℕ) → first (is_2a s) 0 g ≡ f → on_found (first (is_2a s) 0 g)
          (λ h. Some (text_flag (word_at s h 1))) None
          ≡ on_found (first (is_2a s) 0 g) (λ h. Some (text_flag (word_at t h 1))) None
      told (Some h) e =
          let spot = at_first (is_2a s) 0 g h e in
          rw e (ap Some (flag-alike s t h (alike.group h (omega (arith, spot.below))) spot.here))
      told None e = rw e

  group-alike : (k : List ℕ) (g : ℕ) → g < groups_in s → group_wrong k s g ≡ group_wrong k t g
  unfolding group_wrong
  group-alike k g l =
      rw (
        header-alike s t g (alike.group g l) k,
        first_alike g (omega arith),
        content-alike s t g (alike.group g l) (content_wrong k (first_flag t g)) (content_blind k (first_flag t g)),
      )

  came-alike : (n a : ℕ) → n ≤ groups_in s → came s n a ≡ came t n a
  unfolding came
  came-alike zero a l = refl
  came-alike (suc n) a l =
      rw (came-alike n a (omega arith), content-alike s t n (alike.group n l) (λ c. brings c a) (brings_blind a))

  block-alike : (j : ℕ) → j < blocks_in s → block_wrong s j ≡ block_wrong t j
  block-alike j l = told (block_wrong s j) refl (block_wrong t j) refl
    where
      told : (a : Bool) → block_wrong s j ≡ a → (b : Bool) → block_wrong t j ≡ b → block_wrong s j ≡ block_wrong t j
      told true x true y = x ∙ sym y
      told false x false y = x ∙ sym y
      told true x false y = absurd (true≢false (sym x ∙ right_block s j (alike.block_t j l (block_right t j y))))
      told false x true y = absurd (true≢false (sym y ∙ right_block t j (alike.block_s j l (block_right s j x))))

  groups-same : groups_in s ≡ groups_in t
  groups-same = ap (λ (n : ℕ). n / 13) alike.long

  found_alike : (k : List ℕ) → (first_bad_group k s ≡ first_bad_group k t) × (first_missing k s ≡ first_missing k t)
  unfolding first_bad_group first_missing
  found_alike k = (
    first_cong _ _ 0 (groups_in s) (λ g _ l. group-alike k g (omega arith))
        ∙ ap (first (group_wrong k t) 0) groups-same,
    first_cong _ _ 0 (addresses_of k) (λ a _ l. ap not (came-alike (groups_in s) a (omega arith)
        ∙ ap (λ (n : ℕ). came t n a) groups-same)),
  )

  marks-alike : (k : List ℕ) → content_mark k s ≡ content_mark k t
  unfolding content_mark group_mark first_bad_group
  marks-alike k = rw (← (found_alike k).1, ← (found_alike k).0) (told (first_bad_group k s) refl)
    where
      last : Verdict
      last = on_found (first_missing k s) Missing Passed

      told : (f : Option ℕ) → first_bad_group k s ≡ f
          → on_found (first_bad_group k s) (group_mark k s) last ≡ on_found (first_bad_group k s) (group_mark k t) last
      told (Some g) e =
          let spot = at_first (group_wrong k s) 0 (groups_in s) g e in
          rw (e, header-alike s t g (alike.group g (omega (arith, spot.below))) k)
      told None e = rw e

  pub unmarked : (sheet : List ℕ) (n : ℕ) → mark_of sheet n s ≡ mark_of sheet n t
  unfolding mark_of submission_mark length_wrong first_bad_block
  unmarked sheet n =
      let blocks : first (block_wrong s) 0 (blocks_in s) ≡ first (block_wrong t) 0 (blocks_in t) =
      first_cong _ _ 0 (blocks_in s) (λ j _ l. block-alike j (omega arith))
      ∙ ap (λ (m : ℕ). first (block_wrong t) 0 (4 * m)) groups-same in
      rw (blocks, marks-alike (key_at sheet n), alike.long)
