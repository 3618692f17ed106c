-- Answer 1 exactly if the sheet has no such exercise, answer 2 exactly if it has one and its key is not good, answer 0
-- exactly if it has one and its key is good. Both tests are decided; `key_of` computes at each outcome of them.
use Prim.Native.Nat.{ℕ}
use mathlib.Core.Path.{◌≡◌, refl, sym, ◌∙◌}
use mathlib.Core.List.{List, []}
use mathlib.Core.Bool.{Bool, true, false, cond, not, true≢false}
use native.Mathlib.Omega.{arith}
use lib.ListN.{length}
use Rattle.std.specs.Prelude.{Err}
use Rattle.keys.specs.declared.KeyError.TheVariants.{NoKey, BadKey}
use Rattle.keys.specs.Sheet.{HasExercise, no_key, key_at}
use Rattle.keys.specs.Good.{GoodKey, key_good}
use Rattle.keys.specs.Asked.{key_number_of, given, key_of}
use Rattle.keys.proofs.SheetLaws.{has_exercise, exercise_has}
use Rattle.keys.proofs.GoodLaws.{good_key, key_good_lem}

-- ---- whether the sheet has an exercise, and whether a key is good, is decided

pub exercise_dec : (sheet : List ℕ) (n : ℕ) → Dec (HasExercise sheet n)
exercise_dec sheet n = told (no_key sheet n) refl
  where
    told : (b : Bool) → no_key sheet n ≡ b → Dec (HasExercise sheet n)
    told true e = no (λ h. true≢false (sym e ∙ exercise_has sheet n h))
    told false e = yes (has_exercise sheet n e)

pub good_dec : (k : List ℕ) → Dec (GoodKey k)
good_dec k = told (key_good k) refl
  where
    told : (b : Bool) → key_good k ≡ b → Dec (GoodKey k)
    told true e = yes (good_key k e)
    told false e = no (λ g. true≢false (sym (key_good_lem k g) ∙ e))

module _ (sheet : List ℕ) (n : ℕ) where
  -- ---- what is answered at each outcome of the two tests

  pub asked_none : no_key sheet n ≡ true → key_of sheet n ≡ Err NoKey
  unfolding key_of
  asked_none e = rw e

  pub asked_bad : no_key sheet n ≡ false → key_good (key_at sheet n) ≡ false → key_of sheet n ≡ Err BadKey
  unfolding key_of
  asked_bad e f = rw (e, f)

  pub asked_good : no_key sheet n ≡ false → key_good (key_at sheet n) ≡ true → key_of sheet n ≡ given (key_at sheet n)
  unfolding key_of
  asked_good e f = rw (e, f)

  -- the number in the promise is the answer's
  pub key_number : key_number_of (key_of sheet n)
      ≡ cond (no_key sheet n) 1 (cond (not (key_good (key_at sheet n))) 2 0)
  unfolding key_of
  key_number = both (no_key sheet n) (key_good (key_at sheet n)) (key_at sheet n)
    where
      both : (a b : Bool) (k : List ℕ) →
          key_number_of (cond a (Err NoKey) (cond (not b) (Err BadKey) (given k)))
          ≡ cond a 1 (cond (not b) 2 0)
      both true b k = refl
      both false true k = refl
      both false false k = refl

  -- ---- the same over the meanings

  -- no such exercise: 1
  pub none_is_one : (HasExercise sheet n → ⊥) → key_of sheet n ≡ Err NoKey
  none_is_one f = told (no_key sheet n) refl
    where
      told : (b : Bool) → no_key sheet n ≡ b → key_of sheet n ≡ Err NoKey
      told true e = asked_none e
      told false e = absurd (f (has_exercise sheet n e))

  -- a key that is not good: 2
  pub bad_is_two : HasExercise sheet n → (GoodKey (key_at sheet n) → ⊥) → key_of sheet n ≡ Err BadKey
  bad_is_two h f = told (key_good (key_at sheet n)) refl
    where
      told : (b : Bool) → key_good (key_at sheet n) ≡ b → key_of sheet n ≡ Err BadKey
      told true e = absurd (f (good_key (key_at sheet n) e))
      told false e = asked_bad (exercise_has sheet n h) e

  -- a good key: 0, and it is handed out
  pub good_is_zero : HasExercise sheet n → GoodKey (key_at sheet n) → key_of sheet n ≡ given (key_at sheet n)
  good_is_zero h g = asked_good (exercise_has sheet n h) (key_good_lem (key_at sheet n) g)

  -- ---- "exactly": the number tells the case

  -- one way each; the other is none_is_one, bad_is_two and good_is_zero
  pub one_is_none : key_number_of (key_of sheet n) ≡ 1 → HasExercise sheet n → ⊥
  one_is_none e h = told (good_dec (key_at sheet n))
    where
      told : Dec (GoodKey (key_at sheet n)) → ⊥
      told (yes g) = let z : ◌≡◌ {A = ℕ} 0 1 = rw (good_is_zero h g) at e in omega arith
      told (no f) = let z : ◌≡◌ {A = ℕ} 2 1 = rw (bad_is_two h f) at e in omega arith

  pub two_is_bad : key_number_of (key_of sheet n) ≡ 2 → HasExercise sheet n × (GoodKey (key_at sheet n) → ⊥)
  two_is_bad e = told (exercise_dec sheet n)
    where
      told : Dec (HasExercise sheet n) → HasExercise sheet n × (GoodKey (key_at sheet n) → ⊥)
      told (yes h) = (h, λ g. let z : ◌≡◌ {A = ℕ} 0 2 = rw (good_is_zero h g) at e in omega arith)
      told (no f) = let z : ◌≡◌ {A = ℕ} 1 2 = rw (none_is_one f) at e in absurd (omega arith)

  pub zero_is_good : key_number_of (key_of sheet n) ≡ 0 → HasExercise sheet n × GoodKey (key_at sheet n)
  zero_is_good e = told (exercise_dec sheet n) (good_dec (key_at sheet n))
    where
      told : Dec (HasExercise sheet n) → Dec (GoodKey (key_at sheet n)) → HasExercise sheet n × GoodKey (key_at sheet n)
      told (yes h) (yes g) = (h, g)
      told (yes h) (no f) = let z : ◌≡◌ {A = ℕ} 2 0 = rw (bad_is_two h f) at e in absurd (omega arith)
      told (no f) d = let z : ◌≡◌ {A = ℕ} 1 0 = rw (none_is_one f) at e in absurd (omega arith)

-- ---- the whole answer

-- only the asked record is looked at
pub only_record : (s t : List ℕ) (n : ℕ) → length s ≡ length t → key_at s n ≡ key_at t n → key_of s n ≡ key_of t n
unfolding key_of no_key
only_record s t n l e = rw (l, e)

-- a sheet that did not load has no key
pub empty-sheet : (n : ℕ) → key_of [] n ≡ Err NoKey
unfolding key_of no_key
empty-sheet n = refl
