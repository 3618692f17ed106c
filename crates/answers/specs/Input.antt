-- The input of a program: one byte of exercise number, and then the submission.
use Rattle.std.specs.Prelude.{ℕ, List, get_or, drop}

-- the exercise: nothing at all counts as exercise 0
abbrev pub exercise_in : List ℕ → ℕ
exercise_in input = get_or input 0 0

-- the submission: nothing at all counts as length 0
abbrev pub submission_in : List ℕ → List ℕ
submission_in input = drop 1 input
