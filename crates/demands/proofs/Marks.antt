-- The rows 1 to 7 of the marker: its laws say over the rules when each answer is given; here it is said in the rows'
-- words. A row that does not hold is a rule that does, since each is decided.
use Prim.Native.Nat.{ℕ, ◌<◌, ◌≤◌}
use mathlib.Core.Path.{◌≡◌, refl, sym, ◌∙◌}
use mathlib.Core.List.{List}
use mathlib.Core.Bool.{Bool, true, false, true≢false}
use mathlib.Core.Logic.Iff
use mathlib.Core.Logic.{◌↔◌}
use native.Mathlib.Omega.{arith}
use Rattle.keys.specs.Sheet.{HasExercise, key_at}
use Rattle.keys.specs.Good.{GoodKey}
use Rattle.keys.specs.Wanted.{wanted_address}
use Rattle.keys.proofs.AnswerLaws.{exercise_dec}
use Rattle.keys.proofs.WantedLaws.{address_wanted, wanted_address_lem}
use Rattle.marker.specs.Submission.{groups_in}
use Rattle.marker.specs.Tests.{length_wrong, header_wrong_at, content_wrong_at}
use Rattle.marker.specs.Rules.{GoodLength, BlocksRight, HeaderRight, ContentRight, GroupRight, KeyGood, Told}
use Rattle.marker.specs.Mark.{mark_of}
use Rattle.marker.specs.Verdict.{number_of, place_of}
use Rattle.marker.specs.declared.Verdict.{Verdict}
use Rattle.marker.specs.declared.Verdict.TheVariants.{Passed, NoKey, BadKey, BadLength, BadBlock, BadHeader}
use Rattle.marker.specs.declared.Verdict.TheVariants.{BadContent, Missing}
use Rattle.marker.proofs.RuleLaws.{length_right, right-length, header_right, right_header, content_right, right_content}
use Rattle.marker.proofs.TableLaws.{number_told, told_number_lem}
use Rattle.demands.specs.When.{NoExercise, WrongLength, Opened, FirstInvalid, HeaderWrong, ContentWrong}
use Rattle.demands.specs.When.{NoneBefore, LowestMissing}
use Rattle.demands.specs.Refusals.{Marked}
use Rattle.demands.proofs.Words.{no_exercise, wrong-length, header_wrong_lem, content_wrong_lem, address_is_wanted}

-- ---- a row that does not hold is a rule that does

not_wrong : {Right Wrong : Type 0} → ((Right → ⊥) ↔ Wrong) → Dec Right → (Wrong → ⊥) ↔ Right
not_wrong {Right} {Wrong} iff d = (λ f. told f d, λ r w. iff.1 w r)
  where
    told : (Wrong → ⊥) → Dec Right → Right
    told f (yes r) = r
    told f (no n) = absurd (f (iff.0 n))

by_test : {Right : Type 0} (b : Bool) → (b ≡ false → Right) → (Right → b ≡ false) → Dec Right
by_test true there back = no (λ r. true≢false (back r))
by_test false there back = yes (there refl)

pub exercise-there : (sheet : List ℕ) (n : ℕ) → (NoExercise sheet n → ⊥) ↔ HasExercise sheet n
exercise-there sheet n = not_wrong (no_exercise sheet n) (exercise_dec sheet n)

length-good : (s : List ℕ) → (WrongLength s → ⊥) ↔ GoodLength s
length-good s = not_wrong (wrong-length s) (by_test (length_wrong s) (length_right s) (right-length s))

module _ (k s : List ℕ) where
  header-good : (g : ℕ) → (HeaderWrong k s g → ⊥) ↔ HeaderRight k s g
  header-good g =
      not_wrong (header_wrong_lem k s g) (by_test (header_wrong_at k s g) (header_right k s g) (right_header k s g))

  content-good : (g : ℕ) → (ContentWrong k s g → ⊥) ↔ ContentRight k s g
  content-good g =
      not_wrong (content_wrong_lem k s g) (by_test (content_wrong_at k s g) (content_right k s g) (right_content k s g))

  groups-good : (g : ℕ) → NoneBefore k s g ↔ ((h : ℕ) → h < g → GroupRight k s h)
  groups-good g = (
    λ none h l. ((header-good h).0 (none h l).0, (content-good h).0 (none h l).1),
    λ right h l. ((header-good h).1 (right h l).0, (content-good h).1 (right h l).1),
  )

opened : (sheet : List ℕ) (n : ℕ) (s : List ℕ) → Opened sheet n s ↔ (KeyGood sheet n × GoodLength s)
opened sheet n s = (
  λ o. (((exercise-there sheet n).0 o.exercise, o.key), (length-good s).0 o.long),
  λ r. record {
    exercise = (exercise-there sheet n).1 r.0.0;
    key = r.0.1;
    long = (length-good s).1 r.1;
  },
)

-- ---- the place of the answers 1, 2 and 3 is 0

low-place : (v : Verdict) → number_of v ≤ 3 → place_of v ≡ 0
low-place Passed l = refl
low-place NoKey l = refl
low-place BadKey l = refl
low-place BadLength l = refl
low-place (BadBlock j) l = absurd (omega arith)
low-place (BadHeader g) l = absurd (omega arith)
low-place (BadContent g) l = absurd (omega arith)
low-place (Missing a) l = absurd (omega arith)

module _ (sheet : List ℕ) (n : ℕ) (s : List ℕ) where
  pub place_0 : (number p : ℕ) → number ≤ 3 → Marked sheet n s number p → p ≡ 0
  place_0 number p l m = sym m.1 ∙ low-place (mark_of sheet n s) (omega (arith, m.0))

  -- ---- the answers

  -- a number with its place exactly if the conditions of that answer hold
  told : (v : Verdict) → Marked sheet n s (number_of v) (place_of v) ↔ Told sheet n s v
  told v = (λ m. number_told sheet n s v m.0 m.1, told_number_lem sheet n s v)

  pub one : Marked sheet n s 1 0 ↔ NoExercise sheet n
  unfolding Told
  one = Iff.trans (told NoKey) (no_exercise sheet n)

  pub two : Marked sheet n s 2 0 ↔ ((NoExercise sheet n → ⊥) × (GoodKey (key_at sheet n) → ⊥))
  unfolding Told
  two =
      Iff.trans (told BadKey)
      (λ t. ((exercise-there sheet n).1 t.0, t.1), λ t. ((exercise-there sheet n).0 t.0, t.1))

  pub three : Marked sheet n s 3 0 ↔ ((NoExercise sheet n → ⊥) × GoodKey (key_at sheet n) × WrongLength s)
  unfolding Told
  three =
      Iff.trans (told BadLength) (
        λ t. ((exercise-there sheet n).1 t.0.0, t.0.1, (wrong-length s).0 t.1),
        λ t. (((exercise-there sheet n).0 t.0, t.1), (wrong-length s).1 t.2),
      )

  pub four : (j : ℕ) → Marked sheet n s 4 j ↔ (Opened sheet n s × FirstInvalid s j)
  unfolding Told
  four j =
      Iff.trans (told (BadBlock j)) (
        λ t. ((opened sheet n s).1 (t.0, t.1), record { there = t.2; invalid = t.3; first = t.4 }),
        λ t. let o = (opened sheet n s).0 t.0 in (o.0, o.1, t.1.there, t.1.invalid, t.1.first),
      )

  pub five : (g : ℕ) → Marked sheet n s 5 g
      ↔ (Opened sheet n s × BlocksRight s × (g < groups_in s) × NoneBefore (key_at sheet n) s g
      × HeaderWrong (key_at sheet n) s g)
  unfolding Told
  five g =
      Iff.trans (told (BadHeader g)) (
        λ t. (
          (opened sheet n s).1 (t.0, t.1),
          t.2,
          t.3,
          (groups-good (key_at sheet n) s g).1 t.5,
          (header_wrong_lem (key_at sheet n) s g).0 t.4,
        ),
        λ t. let o = (opened sheet n s).0 t.0 in (
          o.0,
          o.1,
          t.1,
          t.2,
          (header_wrong_lem (key_at sheet n) s g).1 t.4,
          (groups-good (key_at sheet n) s g).0 t.3,
        ),
      )

  pub six : (g : ℕ) → Marked sheet n s 6 g
      ↔ (Opened sheet n s × BlocksRight s × (g < groups_in s) × NoneBefore (key_at sheet n) s g
      × (HeaderWrong (key_at sheet n) s g → ⊥) × ContentWrong (key_at sheet n) s g)
  unfolding Told
  six g =
      Iff.trans (told (BadContent g)) (
        λ t. (
          (opened sheet n s).1 (t.0, t.1),
          t.2,
          t.3,
          (groups-good (key_at sheet n) s g).1 t.6,
          (header-good (key_at sheet n) s g).1 t.4,
          (content_wrong_lem (key_at sheet n) s g).0 t.5,
        ),
        λ t. let o = (opened sheet n s).0 t.0 in (
          o.0,
          o.1,
          t.1,
          t.2,
          (header-good (key_at sheet n) s g).0 t.4,
          (content_wrong_lem (key_at sheet n) s g).1 t.5,
          (groups-good (key_at sheet n) s g).0 t.3,
        ),
      )

  pub seven : (a : ℕ) → Marked sheet n s 7 a
      ↔ (Opened sheet n s × BlocksRight s × NoneBefore (key_at sheet n) s (groups_in s)
      × LowestMissing (key_at sheet n) s a)
  unfolding Told
  seven a =
      Iff.trans (told (Missing a)) (
        λ t. (
          (opened sheet n s).1 (t.0, t.1),
          t.2,
          (groups-good (key_at sheet n) s (groups_in s)).1 t.3,
          record {
            wanted = (address_is_wanted (key_at sheet n) a).0 t.4;
            missing = t.5;
            lowest = λ b l. t.6 b l (lower b l t.4);
          },
        ),
        λ t. let o = (opened sheet n s).0 t.0 in (
          o.0,
          o.1,
          t.1,
          (groups-good (key_at sheet n) s (groups_in s)).0 t.2,
          (address_is_wanted (key_at sheet n) a).1 t.3.wanted,
          t.3.missing,
          λ b l w. t.3.lowest b l,
        ),
      )
    where
      lower : (b : ℕ) → b < a → wanted_address (key_at sheet n) a ≡ true → wanted_address (key_at sheet n) b ≡ true
      lower b l w =
          address_wanted (key_at sheet n) b (omega (arith, wanted_address_lem (key_at sheet n) a w))
