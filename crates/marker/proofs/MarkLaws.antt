-- The whole table: the answer for each answer to the question for a key, and the columns "No." and "Place".
use Rattle.std.specs.Prelude.{Option, Some, None, Result, Ok, Err}
use Prim.Native.Nat.{ℕ}
use mathlib.Core.Path.{◌≡◌, refl, sym, ap, ◌∙◌}
use mathlib.Core.List.{List}
use mathlib.Core.Bool.{Bool, true, false, not, cond}
use Rattle.keys.specs.declared.Key.{Key}
use Rattle.keys.specs.declared.KeyError.{KeyError}
use Rattle.keys.specs.declared.KeyError.TheVariants as key
use Rattle.keys.specs.Sheet.{no_key, key_at}
use Rattle.keys.specs.Good.{key_good}
use Rattle.keys.specs.Asked.{given, key_of}
use Rattle.marker.specs.declared.Verdict.{Verdict}
use Rattle.marker.specs.declared.Verdict.TheVariants.{Passed, NoKey, BadKey, BadLength, BadBlock, BadHeader}
use Rattle.marker.specs.declared.Verdict.TheVariants.{BadContent, Missing}
use Rattle.marker.specs.Verdict.{number_of, place_of}
use Rattle.marker.specs.First.{on_found}
use Rattle.marker.specs.Tests.{length_wrong, header_wrong_at}
use Rattle.marker.specs.Mark.{first_bad_block, first_bad_group, first_missing, group_mark, content_mark}
use Rattle.marker.specs.Mark.{submission_mark, mark_of, mark_number, mark_place}

-- ---- the columns

-- the table over its tests
abbrev table : Bool → Bool → Bool → Option ℕ → Option ℕ → (ℕ → Bool) → Option ℕ → Verdict
table a b c block group header address =
    cond a NoKey
    (cond (not b) BadKey
    (cond c BadLength
    (on_found block BadBlock
    (on_found group (λ g. cond (header g) (BadHeader g) (BadContent g)) (on_found address Missing Passed)))))

group-number : (h : Bool) (g : ℕ) → number_of (cond h (BadHeader g) (BadContent g)) ≡ cond h 5 6
group-number true g = refl
group-number false g = refl

group-place : (h : Bool) (g : ℕ) → place_of (cond h (BadHeader g) (BadContent g)) ≡ g
group-place true g = refl
group-place false g = refl

module _ (sheet : List ℕ) (n : ℕ) (s : List ℕ) where
  pub mark_number_lem : number_of (mark_of sheet n s) ≡ mark_number sheet n s
  unfolding mark_of submission_mark content_mark group_mark mark_number
  mark_number_lem =
      told (no_key sheet n) (key_good (key_at sheet n)) (length_wrong s) (first_bad_block s) (first_bad_group (key_at sheet n) s)
      (header_wrong_at (key_at sheet n) s) (first_missing (key_at sheet n) s)
    where
      told : (a b c : Bool) (x y : Option ℕ) (h : ℕ → Bool) (z : Option ℕ) → number_of (table a b c x y h z)
          ≡ cond a 1 (cond (not b) 2 (cond c 3 (on_found x (λ _. 4)
          (on_found y (λ g. cond (h g) 5 6) (on_found z (λ _. 7) 0)))))
      told true b c x y h z = refl
      told false false c x y h z = refl
      told false true true x y h z = refl
      told false true false (Some j) y h z = refl
      told false true false None (Some g) h z = group-number (h g) g
      told false true false None None h (Some a) = refl
      told false true false None None h None = refl

  pub mark_place_lem : place_of (mark_of sheet n s) ≡ mark_place sheet n s
  unfolding mark_of submission_mark content_mark group_mark mark_place
  mark_place_lem =
      told (no_key sheet n) (key_good (key_at sheet n)) (length_wrong s) (first_bad_block s) (first_bad_group (key_at sheet n) s)
      (header_wrong_at (key_at sheet n) s) (first_missing (key_at sheet n) s)
    where
      told : (a b c : Bool) (x y : Option ℕ) (h : ℕ → Bool) (z : Option ℕ) → place_of (table a b c x y h z)
          ≡ cond a 0 (cond (not b) 0 (cond c 0 (on_found x (λ j. j) (on_found y (λ g. g) (on_found z (λ a. a) 0)))))
      told true b c x y h z = refl
      told false false c x y h z = refl
      told false true true x y h z = refl
      told false true false (Some j) y h z = refl
      told false true false None (Some g) h z = group-place (h g) g
      told false true false None None h (Some a) = refl
      told false true false None None h None = refl

  -- what `mark` promises
  abbrev pub Settled : Verdict → Type 0
  Settled v = (v ≡ mark_of sheet n s) × (number_of v ≡ mark_number sheet n s) × (place_of v ≡ mark_place sheet n s)

  settled : (v : Verdict) → v ≡ mark_of sheet n s → Settled v
  settled v e = (e, ap number_of e ∙ mark_number_lem, ap place_of e ∙ mark_place_lem)

  -- ---- by the answer to the question for a key

  abbrev by_key : Result Key KeyError → Verdict
  by_key (Ok k) = submission_mark k.bytes s
  by_key (Err key.NoKey) = NoKey
  by_key (Err key.BadKey) = BadKey

  by_key_of : by_key (key_of sheet n) ≡ mark_of sheet n s
  unfolding key_of mark_of
  by_key_of = told (no_key sheet n) (key_good (key_at sheet n)) (key_at sheet n)
    where
      told : (a b : Bool) (k : List ℕ)
          → by_key (cond a (Err key.NoKey) (cond (not b) (Err key.BadKey) (given k)))
          ≡ cond a NoKey (cond (not b) BadKey (submission_mark k s))
      told true b k = refl
      told false true k = refl
      told false false k = refl

  module _ (r : Result Key KeyError) (e : r ≡ key_of sheet n) where
    by_answer : (v : Verdict) → by_key r ≡ v → Settled v
    by_answer v f = settled v (sym f ∙ ap by_key e ∙ by_key_of)

    pub mark_no_key : r ≡ Err key.NoKey → Settled NoKey
    mark_no_key f = by_answer NoKey (ap by_key f)

    pub mark_bad_key : r ≡ Err key.BadKey → Settled BadKey
    mark_bad_key f = by_answer BadKey (ap by_key f)

    pub mark_good_key : (k : Key) → r ≡ Ok k → (v : Verdict) → v ≡ submission_mark k.bytes s → Settled v
    mark_good_key k f v d = by_answer v (ap by_key f ∙ sym d)
