-- What people see, and what they ask: the line that `mark` prints and what `encode` writes, for the bytes of a sheet
-- and of an input, one byte of exercise number and then the submission. The programs' buffers hold these texts whole;
-- the part with io only moves them.
use Rattle.std.specs.Prelude.{ℕ, ◌≤◌, ◌<◌, ◌≡◌, ◌↔◌, List, [], ◌∷◌, ◌++◌, true, Some, None}
use Rattle.bits.specs.Bytes.{Bytes}
use Rattle.letters.specs.Letters.{codes, decimal_of}
use Rattle.asking.specs.Exercise.{digit_zero, last_exercise, named_of}
use Rattle.asking.specs.Words.{is_standard, is_summary}
use Rattle.receiver.specs.declared.Advanced.{Advanced}
use Rattle.recording.specs.declared.Ear.{Ear}
use Rattle.recording.specs.Lines.{group_line, lock_line_of}
use Rattle.keys.specs.Sheet.{key_at}
use Rattle.keys.specs.Good.{GoodKey}
use Rattle.marker.specs.Rules.{GoodLength, Rules, KeyGood}
use Rattle.answers.specs.Input.{exercise_in, submission_in}
use Rattle.answers.specs.Line.{mark_line}
use Rattle.answers.specs.Encoded.{output_of, error_of, refusal_line}
use Rattle.answers.specs.Enough.{ReadEnough}
use Rattle.demands.specs.When.{NoExercise}
use Rattle.demands.specs.Passing.{IsPassed}

-- the line `exercise N answer 0 place 0`
abbrev pub pass_line : ℕ → List ℕ
pass_line n = codes "exercise " ++ decimal_of n ++ codes " answer 0 place 0\n"

-- The line says answer 0 for exercise N exactly if N is the exercise of the input, its key is there and good, the
-- length of the submission is right, and every marking rule holds: the conditions of demand 3a, for those bytes.
abbrev pub SaysPassed : Type 0
SaysPassed =
    (sheet input : List ℕ) (n : ℕ) →
    (mark_line sheet input ≡ pass_line n)
    ↔ ((exercise_in input ≡ n)
    × (KeyGood sheet n × GoodLength (submission_in input) × Rules (key_at sheet n) (submission_in input)))

-- What `encode` writes to standard output for a good key passes, and nothing is said on standard error; where it is
-- refused nothing is written to standard output, and the number of the refusal is said.
pub record EncodeWrites : Type 0 where
  pub passes : (sheet : List ℕ) (n : ℕ) → Bytes sheet → KeyGood sheet n → IsPassed sheet n (output_of sheet n)
  pub quiet : (sheet : List ℕ) (n : ℕ) → KeyGood sheet n → error_of sheet n ≡ []
  pub one : (sheet : List ℕ) (n : ℕ) → NoExercise sheet n → (output_of sheet n ≡ []) × (error_of sheet n ≡ refusal_line 1)
  pub two : (sheet : List ℕ) (n : ℕ) → (NoExercise sheet n → ⊥) → (GoodKey (key_at sheet n) → ⊥)
      → (output_of sheet n ≡ []) × (error_of sheet n ≡ refusal_line 2)

-- An exercise by its decimal digits: that number up to 255, none above; leading zeros are just zeros.
pub record Named : Type 0 where
  pub back : (n : ℕ) → n ≤ last_exercise → named_of (decimal_of n) ≡ Some n
  pub over : (n : ℕ) → last_exercise < n → named_of (decimal_of n) ≡ None
  pub zeros : (c : ℕ) (cs : List ℕ) → named_of (digit_zero ∷ c ∷ cs) ≡ named_of (c ∷ cs)

-- `-` names standard input and `-s` asks for the summary alone, and nothing else does; with it nothing is told of an
-- answer.
pub record Asked : Type 0 where
  pub standard : (name : List ℕ) → (is_standard name ≡ true) ↔ (name ≡ codes "-")
  pub summary : (argument : List ℕ) → (is_summary argument ≡ true) ↔ (argument ≡ codes "-s")
  pub no_group : (ear : Ear) (taken : Advanced) → group_line true ear taken ≡ []
  pub no-lock : (before : ℕ) (taken : Advanced) → lock_line_of true before taken ≡ []

-- all of it, and that what is read suffices: 20,481 bytes of the sheet and 13,314 of the input give the same
pub record Printed : Type 0 where
  pub says-passed : SaysPassed
  pub encode_writes : EncodeWrites
  pub named : Named
  pub asked : Asked
  pub read-enough : ReadEnough
