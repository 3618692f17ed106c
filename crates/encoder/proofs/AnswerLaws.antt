-- Each answer exactly if what it says holds: number 1 if there is no such exercise, 2 if its key is not good, 8 if the
-- key is good and the buffer too short, 0 if it is not. The tests are decided; `encode_of` computes at each outcome.
use Prim.Native.Nat.{ℕ, ◌<◌, ◌≤◌}
use mathlib.Core.Path.{◌≡◌, refl, sym, ap, ◌∙◌}
use mathlib.Core.List.{List, [], ◌∷◌}
use mathlib.Core.Bool.{Bool, true, false, cond, not, ◌||◌}
use mathlib.Core.Logic.{⊎_elim, ◌↔◌}
use native.Mathlib.Omega.{arith}
use borrow.Author.Tests.{lt-ltb, le-ltb}
use Rattle.bits.proofs.Order.{lt-or-le}
use Rattle.keys.specs.Sheet.{HasExercise, no_key, key_at}
use Rattle.keys.specs.Good.{GoodKey, key_good}
use Rattle.keys.proofs.SheetLaws.{has_exercise, exercise_has}
use Rattle.keys.proofs.GoodLaws.{good_key, key_good_lem}
use Rattle.keys.proofs.AnswerLaws.{exercise_dec, good_dec}
use Rattle.encoder.specs.Encoding.{size_of}
use Rattle.encoder.specs.Answer.{encoded_number, encoded_values, Says}
use Rattle.encoder.specs.Answer.{too_short, encode_of, encode_number, encode_values}
use Rattle.std.specs.Prelude.{Result, Ok, Err}
use Rattle.encoder.specs.declared.EncodeError.{EncodeError}
use Rattle.encoder.specs.declared.EncodeError.TheVariants.{NoKey, BadKey, TooShort}

module _ (sheet : List ℕ) (n room : ℕ) where
  -- ---- what is answered in each case

  pub answer_none : (HasExercise sheet n → ⊥) → encode_of sheet n room ≡ Err NoKey
  unfolding encode_of
  answer_none f = by_test (no_key sheet n) refl
    where
      by_test : (b : Bool) → no_key sheet n ≡ b → encode_of sheet n room ≡ Err NoKey
      by_test true e = rw e
      by_test false e = absurd (f (has_exercise sheet n e))

  pub answer_bad : HasExercise sheet n → (GoodKey (key_at sheet n) → ⊥) → encode_of sheet n room ≡ Err BadKey
  unfolding encode_of
  answer_bad h f = by_test (key_good (key_at sheet n)) refl
    where
      by_test : (b : Bool) → key_good (key_at sheet n) ≡ b → encode_of sheet n room ≡ Err BadKey
      by_test true e = absurd (f (good_key (key_at sheet n) e))
      by_test false e = rw (exercise_has sheet n h, e)

  -- with a good key the room decides
  pub answer_good : HasExercise sheet n → GoodKey (key_at sheet n)
      → encode_of sheet n room ≡ cond (too_short (key_at sheet n) room) (Err TooShort) (Ok (size_of (key_at sheet n)))
  unfolding encode_of
  answer_good h g = rw (exercise_has sheet n h, key_good_lem (key_at sheet n) g)

  pub answer_short : HasExercise sheet n → GoodKey (key_at sheet n) → room < size_of (key_at sheet n)
      → encode_of sheet n room ≡ Err TooShort
  unfolding too_short
  answer_short h g l = answer_good h g ∙ rw (lt-ltb room (size_of (key_at sheet n)) l)

  pub answer_written : HasExercise sheet n → GoodKey (key_at sheet n) → size_of (key_at sheet n) ≤ room
      → encode_of sheet n room ≡ Ok (size_of (key_at sheet n))
  unfolding too_short
  answer_written h g l = answer_good h g ∙ rw (le-ltb room (size_of (key_at sheet n)) l)

  -- ---- an answer is given exactly if what it says holds

  pub says_answer : (r : Result ℕ EncodeError) → Says sheet n room r → encode_of sheet n room ≡ r
  says_answer (Err NoKey) s = answer_none s
  says_answer (Err BadKey) s = answer_bad s.0 s.1
  says_answer (Err TooShort) s = answer_short s.0 s.1 s.2
  says_answer (Ok count) s = answer_written s.0 s.1 s.2 ∙ ap Ok (sym s.3)

  pub answer_says : Says sheet n room (encode_of sheet n room)
  answer_says = told (exercise_dec sheet n) (good_dec (key_at sheet n))
    where
      told : Dec (HasExercise sheet n) → Dec (GoodKey (key_at sheet n)) → Says sheet n room (encode_of sheet n room)
      told (no f) d = rw (answer_none f) f
      told (yes h) (no f) = rw (answer_bad h f) (h, f)
      told (yes h) (yes g) =
          ⊎_elim (λ l. rw (answer_short h g l) (h, g, l)) (λ l. rw (answer_written h g l) (h, g, l, refl))
          (lt-or-le room (size_of (key_at sheet n)))

  -- ---- the numbers and values

  pub encode_number_lem : encoded_number (encode_of sheet n room) ≡ encode_number sheet n room
  unfolding encode_of encode_number
  encode_number_lem = by_tests (no_key sheet n) (key_good (key_at sheet n)) (too_short (key_at sheet n) room)
    where
      by_tests : (a b c : Bool) →
          encoded_number (cond a (Err NoKey) (cond (not b) (Err BadKey) (cond c (Err TooShort) (Ok (size_of (key_at sheet n))))))
          ≡ cond a 1 (cond (not b) 2 (cond c 8 0))
      by_tests true b c = refl
      by_tests false false c = refl
      by_tests false true true = refl
      by_tests false true false = refl

  pub encode_values_lem : encoded_values (encode_of sheet n room) ≡ encode_values sheet n room
  unfolding encode_of encode_values
  encode_values_lem = by_tests (no_key sheet n) (key_good (key_at sheet n)) (too_short (key_at sheet n) room)
    where
      by_tests : (a b c : Bool) →
          encoded_values (cond a (Err NoKey) (cond (not b) (Err BadKey) (cond c (Err TooShort) (Ok (size_of (key_at sheet n))))))
          ≡ cond (a || (not b || c)) [] (size_of (key_at sheet n) ∷ [])
      by_tests true b c = refl
      by_tests false false c = refl
      by_tests false true true = refl
      by_tests false true false = refl

  -- 1 exactly if there is no such exercise
  pub number_1 : (encoded_number (encode_of sheet n room) ≡ 1) ↔ (HasExercise sheet n → ⊥)
  number_1 = (said (encode_of sheet n room) answer_says, λ f. rw (answer_none f))
    where
      said : (r : Result ℕ EncodeError) → Says sheet n room r → encoded_number r ≡ 1 → HasExercise sheet n → ⊥
      said (Err NoKey) s e = s
      said (Err BadKey) s e = absurd (omega arith)
      said (Err TooShort) s e = absurd (omega arith)
      said (Ok count) s e = absurd (omega arith)

  -- 2 exactly if there is, and its key is not good
  pub number_2 : (encoded_number (encode_of sheet n room) ≡ 2) ↔ (HasExercise sheet n × (GoodKey (key_at sheet n) → ⊥))
  number_2 = (said (encode_of sheet n room) answer_says, λ s. rw (answer_bad s.0 s.1))
    where
      said : (r : Result ℕ EncodeError) → Says sheet n room r → encoded_number r ≡ 2
          → HasExercise sheet n × (GoodKey (key_at sheet n) → ⊥)
      said (Err NoKey) s e = absurd (omega arith)
      said (Err BadKey) s e = s
      said (Err TooShort) s e = absurd (omega arith)
      said (Ok count) s e = absurd (omega arith)

  -- 8 exactly if its key is good, and the buffer too short
  pub number_8 : (encoded_number (encode_of sheet n room) ≡ 8)
      ↔ (HasExercise sheet n × GoodKey (key_at sheet n) × (room < size_of (key_at sheet n)))
  number_8 = (said (encode_of sheet n room) answer_says, λ s. rw (answer_short s.0 s.1 s.2))
    where
      said : (r : Result ℕ EncodeError) → Says sheet n room r → encoded_number r ≡ 8
          → HasExercise sheet n × GoodKey (key_at sheet n) × (room < size_of (key_at sheet n))
      said (Err NoKey) s e = absurd (omega arith)
      said (Err BadKey) s e = absurd (omega arith)
      said (Err TooShort) s e = s
      said (Ok count) s e = absurd (omega arith)

  -- 0 exactly if its key is good, and the buffer is not too short
  pub number_0 : (encoded_number (encode_of sheet n room) ≡ 0)
      ↔ (HasExercise sheet n × GoodKey (key_at sheet n) × (size_of (key_at sheet n) ≤ room))
  number_0 = (said (encode_of sheet n room) answer_says, λ s. rw (answer_written s.0 s.1 s.2))
    where
      said : (r : Result ℕ EncodeError) → Says sheet n room r → encoded_number r ≡ 0
          → HasExercise sheet n × GoodKey (key_at sheet n) × (size_of (key_at sheet n) ≤ room)
      said (Err NoKey) s e = absurd (omega arith)
      said (Err BadKey) s e = absurd (omega arith)
      said (Err TooShort) s e = absurd (omega arith)
      said (Ok count) s e = (s.0, s.1, s.2)
