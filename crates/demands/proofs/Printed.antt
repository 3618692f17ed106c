-- What is printed says what was answered: the texts are taken apart from the front, the labels first.
use Prim.Native.Nat.{ℕ, ◌+◌, ◌≤◌}
use mathlib.Core.Path.{◌≡◌, refl, sym, ap, subst, ◌∙◌}
use mathlib.Core.List.{List, [], ◌∷◌, ◌++◌, append_assoc}
use native.Mathlib.Omega.{arith}
use lib.ListN.{length, drop}
use lib.Seq.{drop-append_seam}
use Rattle.letters.specs.Letters.{codes, decimal_of}
use Rattle.letters.proofs.Digits.{digits_small}
use Rattle.std.proofs.lemmas.Slice.Eq.{bytes_eq-Decides}
use Rattle.recording.specs.Lines.{group_line, lock_line_of}
use Rattle.asking.proofs.Decimals.{same_number, decimal-named, over-named, zero-named}
use Rattle.keys.specs.Sheet.{HasExercise, key_at}
use Rattle.keys.specs.Good.{GoodKey}
use Rattle.encoder.specs.Encoding.{encoding, sent_of}
use Rattle.encoder.proofs.SizeLaws.{size_most}
use Rattle.encoder.proofs.AnswerLaws.{answer_none, answer_bad, answer_written}
use Rattle.marker.specs.declared.Verdict.{Verdict}
use Rattle.marker.specs.declared.Verdict.TheVariants.{Passed, NoKey, BadKey, BadLength, BadBlock, BadHeader}
use Rattle.marker.specs.declared.Verdict.TheVariants.{BadContent, Missing}
use Rattle.marker.specs.Verdict.{number_of, place_of}
use Rattle.marker.specs.Mark.{mark_of}
use Rattle.marker.specs.Rules.{GoodLength, Rules, KeyGood}
use Rattle.marker.proofs.TableLaws.{rules_passed}
use Rattle.marker.proofs.EncodedLaws.{encoding_passes}
use Rattle.answers.specs.Input.{exercise_in, submission_in}
use Rattle.answers.specs.Line.{labelled, with_verdict, marked_of, line_of, mark_line}
use Rattle.answers.specs.Encoded.{output_room, output_of, error_of, refusal_line}
use Rattle.answers.proofs.Enough.{read-enough}
use Rattle.demands.specs.Passing.{IsPassed}
use Rattle.demands.specs.Printed.{pass_line, SaysPassed, EncodeWrites, Asked, Printed}
use Rattle.demands.proofs.Words.{no_exercise}
use Rattle.demands.proofs.Marks.{exercise-there}
use Rattle.demands.proofs.PassingExactly.{is_passed, passed_exactly}

-- ---- the line

number_most : (v : Verdict) → number_of v ≤ 7
number_most Passed = omega arith
number_most NoKey = omega arith
number_most BadKey = omega arith
number_most BadLength = omega arith
number_most (BadBlock block) = omega arith
number_most (BadHeader group) = omega arith
number_most (BadContent group) = omega arith
number_most (Missing address) = omega arith

-- what stands behind the exercise
behind : ℕ → ℕ → List ℕ
behind number place = codes " answer " ++ (decimal_of number ++ (labelled " place " place ++ codes "\n"))

-- six texts, one behind the other
regroup : (a b c d p l : List ℕ) → a ++ b ++ (c ++ d) ++ p ++ l ≡ a ++ (b ++ (c ++ (d ++ (p ++ l))))
regroup a b c d p l = simp append_assoc

-- the line, taken apart
line_apart : (e number place : ℕ)
    → line_of (record { exercise = e; number = number; place = place })
    ≡ codes "exercise " ++ (decimal_of e ++ behind number place)
unfolding line_of behind
line_apart e number place =
    regroup (codes "exercise ") (decimal_of e) (codes " answer ") (decimal_of number) (labelled " place " place)
    (codes "\n")

-- a label in front of two texts is taken off
no_label : (label x y : List ℕ) → label ++ x ≡ label ++ y → x ≡ y
no_label label x y e = sym (drop-append_seam label x) ∙ ap (drop (length label)) e ∙ drop-append_seam label y

-- one digit in front
first-digit : (number : ℕ) (x y : List ℕ) → number ≤ 7 → decimal_of number ++ x ≡ 48 ∷ y → number ≡ 0
first-digit number x y h e =
    let same : (48 + number) ∷ x ≡ 48 ∷ y = rw (digits_small 10 48 (omega arith) number (omega arith)) at e in
    let code : 48 + number ≡ 48 = cc in
    omega arith

module _ (e number place n : ℕ) (h : number ≤ 7) where
  line-passes : line_of (record { exercise = e; number = number; place = place }) ≡ pass_line n
      → (e ≡ n) × (number ≡ 0)
  unfolding behind
  line-passes same =
      let apart : codes "exercise " ++ (decimal_of e ++ behind number place)
      ≡ codes "exercise " ++ (decimal_of n ++ codes " answer 0 place 0\n") =
      sym (line_apart e number place) ∙ same
      ∙ append_assoc (codes "exercise ") (decimal_of n) (codes " answer 0 place 0\n") in
      let digits = no_label (codes "exercise ") _ _ apart in
      let exercise = same_number e n _ _ digits in
      let rest = no_label (decimal_of e) (behind number place) (codes " answer 0 place 0\n")
      (digits ∙ ap (λ (k : ℕ). decimal_of k ++ codes " answer 0 place 0\n") (sym exercise)) in
      (exercise, first-digit number _ _ h (no_label (codes " answer ") _ _ rest))

-- the line of an answer 0
behind_pass : behind 0 0 ≡ codes " answer 0 place 0\n"
unfolding behind
behind_pass = rw (digits_small 10 48 (omega arith) 0 (omega arith))

pass_line_lem : (e : ℕ) → line_of (record { exercise = e; number = 0; place = 0 }) ≡ pass_line e
pass_line_lem e =
    line_apart e 0 0 ∙ ap (λ (l : List ℕ). codes "exercise " ++ (decimal_of e ++ l)) behind_pass
    ∙ sym (append_assoc (codes "exercise ") (decimal_of e) (codes " answer 0 place 0\n"))

-- the conditions of demand 3a
abbrev Conditions : List ℕ → List ℕ → ℕ → Type 0
Conditions sheet s n = KeyGood sheet n × GoodLength s × Rules (key_at sheet n) s

module _ (sheet input : List ℕ) (n : ℕ) where
  says-only : mark_line sheet input ≡ pass_line n → (exercise_in input ≡ n) × Conditions sheet (submission_in input) n
  unfolding mark_line marked_of
  says-only same =
      let v : Verdict = mark_of sheet (exercise_in input) (submission_in input) in
      let (e, zero) = line-passes (exercise_in input) (number_of v) (place_of v) n (number_most v) same in (
        e,
        subst (Conditions sheet (submission_in input)) e
            ((passed_exactly sheet (exercise_in input) (submission_in input)).0 zero),
      )

  says_if : (exercise_in input ≡ n) × Conditions sheet (submission_in input) n → mark_line sheet input ≡ pass_line n
  unfolding mark_line marked_of
  says_if (e, rules) =
      let passed = rules_passed sheet (exercise_in input) (submission_in input)
      (subst (Conditions sheet (submission_in input)) (sym e) rules) in
      ap (λ (v : Verdict). line_of (with_verdict (exercise_in input) v)) passed ∙ pass_line_lem (exercise_in input)
      ∙ ap pass_line e

says-passed : SaysPassed
says-passed sheet input n = (says-only sheet input n, says_if sheet input n)

-- ---- the encoder's output

module _ (sheet : List ℕ) (n : ℕ) where
  output-good : KeyGood sheet n → output_of sheet n ≡ encoding (key_at sheet n) (sent_of (key_at sheet n))
  unfolding output_of
  output-good (there, good) = rw (answer_written sheet n output_room there good (size_most (key_at sheet n)))

  error-good : KeyGood sheet n → error_of sheet n ≡ []
  unfolding error_of
  error-good (there, good) = rw (answer_written sheet n output_room there good (size_most (key_at sheet n)))

  none_written : (HasExercise sheet n → ⊥) → (output_of sheet n ≡ []) × (error_of sheet n ≡ refusal_line 1)
  unfolding output_of error_of
  none_written f = let e = answer_none sheet n output_room f in (rw e, rw e)

  bad-written : HasExercise sheet n → (GoodKey (key_at sheet n) → ⊥)
      → (output_of sheet n ≡ []) × (error_of sheet n ≡ refusal_line 2)
  unfolding output_of error_of
  bad-written there f = let e = answer_bad sheet n output_room there f in (rw e, rw e)

encode_writes : EncodeWrites
encode_writes =
    record {
      passes = λ sheet n bytes good. subst (IsPassed sheet n) (sym (output-good sheet n good))
          (is_passed sheet n (encoding (key_at sheet n) (sent_of (key_at sheet n)))
          (encoding_passes sheet n bytes good.0 good.1));
      quiet = error-good;
      one = λ sheet n none. none_written sheet n ((no_exercise sheet n).1 none);
      two = λ sheet n some bad. bad-written sheet n ((exercise-there sheet n).0 some) bad;
    }

-- ---- what is asked

asked : Asked
unfolding group_line lock_line_of
asked =
    record {
      standard = λ name. bytes_eq-Decides name (codes "-");
      summary = λ argument. bytes_eq-Decides argument (codes "-s");
      no_group = λ ear taken. refl;
      no-lock = λ before taken. refl;
    }

-- ---- all of it

pub printed : Printed
printed =
    record {
      says-passed = says-passed;
      encode_writes = encode_writes;
      named = record { back = decimal-named; over = over-named; zeros = zero-named };
      asked = asked;
      read-enough = read-enough;
    }
