-- What lies past the byte after a limit makes no difference: the sheet is then refused, and so is the submission.
use Prim.Native.Nat.{ℕ, ◌<◌, ◌≤◌}
use mathlib.Core.Path.{◌≡◌, sym, ap, ◌∙◌}
use mathlib.Core.List.{List, []}
use mathlib.Core.Logic.{⊎_elim}
use native.Mathlib.Omega.{arith}
use lib.ListN.{length, take, length-drop}
use lib.Seq.{take_all, get_or-take, length-take-le}
use Rattle.bits.proofs.Order.{lt-or-le}
use Rattle.keys.specs.Sheet.{HasExercise}
use Rattle.encoder.proofs.AnswerLaws.{answer_none}
use Rattle.marker.specs.declared.Verdict.TheVariants.{NoKey}
use Rattle.marker.specs.Tests.{submission_limit}
use Rattle.marker.specs.Mark.{mark_of}
use Rattle.marker.specs.Rules.{GoodLength}
use Rattle.marker.proofs.TableLaws.{no_exercise, wrong-length}
use Rattle.answers.specs.Input.{exercise_in, submission_in}
use Rattle.answers.specs.Line.{with_verdict, marked_of, line_of, mark_line}
use Rattle.answers.specs.Encoded.{output_of, error_text, error_of, output_room}
use Rattle.answers.specs.Enough.{sheet_room, input_room, ReadEnough}

-- ---- the sheet

-- a sheet over the limit has no exercise
over_none : (sheet : List ℕ) (n : ℕ) → sheet_room ≤ length sheet → HasExercise sheet n → ⊥
over_none sheet n h has = omega (arith, has.whole, has.few)

module _ (sheet : List ℕ) (n : ℕ) where
  -- what is said alike of all sheets that have no such exercise is said alike of a sheet and of its first bytes
  sheet-alike : {A : Type 0} (said : List ℕ → A) (other : A) → ((l : List ℕ) → (HasExercise l n → ⊥) → said l ≡ other)
      → said (take sheet_room sheet) ≡ said sheet
  sheet-alike said other alike = ⊎_elim long short (lt-or-le sheet_room (length sheet))
    where
      short : length sheet ≤ sheet_room → said (take sheet_room sheet) ≡ said sheet
      short h = ap said (take_all sheet_room sheet h)

      long : sheet_room < length sheet → said (take sheet_room sheet) ≡ said sheet
      long h =
          let cut = length-take-le sheet_room sheet (omega arith) in
          alike (take sheet_room sheet) (over_none (take sheet_room sheet) n (omega arith))
          ∙ sym (alike sheet (over_none sheet n (omega arith)))

  sheet-mark : (s : List ℕ) → mark_of (take sheet_room sheet) n s ≡ mark_of sheet n s
  sheet-mark s = sheet-alike (λ l. mark_of l n s) NoKey (λ l f. no_exercise l n s f)

  sheet-output : output_of (take sheet_room sheet) n ≡ output_of sheet n
  unfolding output_of
  sheet-output = sheet-alike (λ l. output_of l n) [] (λ l f. rw (answer_none l n output_room f))

  sheet-error : error_of (take sheet_room sheet) n ≡ error_of sheet n
  unfolding error_of
  sheet-error = sheet-alike (λ l. error_of l n) (error_text 1) (λ l f. rw (answer_none l n output_room f))

-- ---- the input

same_exercise : (input : List ℕ) → exercise_in (take input_room input) ≡ exercise_in input
same_exercise input = get_or-take input_room input 0 0 (omega arith)

-- a submission over the limit
over_wrong : (s : List ℕ) → submission_limit < length s → GoodLength s → ⊥
over_wrong s h good = omega (arith, good.few)

same_submission : (sheet : List ℕ) (n : ℕ) (input : List ℕ)
    → mark_of sheet n (submission_in (take input_room input)) ≡ mark_of sheet n (submission_in input)
same_submission sheet n input = ⊎_elim long short (lt-or-le input_room (length input))
  where
    short : length input ≤ input_room
        → mark_of sheet n (submission_in (take input_room input)) ≡ mark_of sheet n (submission_in input)
    short h = ap (λ (l : List ℕ). mark_of sheet n (submission_in l)) (take_all input_room input h)

    long : input_room < length input
        → mark_of sheet n (submission_in (take input_room input)) ≡ mark_of sheet n (submission_in input)
    long h =
        let cut = length-take-le input_room input (omega arith) in
        wrong-length sheet n (submission_in (take input_room input)) (submission_in input)
        (over_wrong (submission_in (take input_room input)) (omega (arith, length-drop 1 (take input_room input))))
        (over_wrong (submission_in input) (omega (arith, length-drop 1 input)))

same-marked : (sheet input : List ℕ) → marked_of (take sheet_room sheet) (take input_room input) ≡ marked_of sheet input
unfolding marked_of
same-marked sheet input =
    ap (λ (n : ℕ). with_verdict n (mark_of (take sheet_room sheet) n (submission_in (take input_room input))))
    (same_exercise input)
    ∙ ap (with_verdict (exercise_in input)) (sheet-mark sheet (exercise_in input) (submission_in (take input_room input))
    ∙ same_submission sheet (exercise_in input) input)

-- ---- what is read suffices

pub read-enough : ReadEnough
unfolding mark_line
read-enough =
    record {
      line = λ sheet input. ap line_of (same-marked sheet input);
      output = sheet-output;
      error = sheet-error;
    }
