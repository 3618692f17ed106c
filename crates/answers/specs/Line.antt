-- What `mark` writes: the line `exercise N answer A place P`.
use Rattle.std.specs.Prelude.{ℕ, List, ◌++◌}
use Prim.Native.String.{String}
use Rattle.letters.specs.Letters.{codes, decimal_of}
use Rattle.marker.specs.declared.Verdict.{Verdict}
use Rattle.marker.specs.Verdict.{number_of, place_of}
use Rattle.marker.specs.Mark.{mark_of}
use Rattle.answers.specs.declared.MarkAnswer.{MarkAnswer}
use Rattle.answers.specs.Input.{exercise_in, submission_in}

-- an exercise, and the number and the place of its answer
abbrev pub with_verdict : ℕ → Verdict → MarkAnswer
with_verdict exercise verdict = record { exercise = exercise; number = number_of verdict; place = place_of verdict }

-- of the sheet's bytes and the input's
unfoldable pub marked_of : List ℕ → List ℕ → MarkAnswer
marked_of sheet input = with_verdict (exercise_in input) (mark_of sheet (exercise_in input) (submission_in input))

-- a number in decimal digits behind its label
abbrev pub labelled : String → ℕ → List ℕ
labelled label number = codes label ++ decimal_of number

-- the line of an answer
unfoldable pub line_of : MarkAnswer → List ℕ
line_of m =
    labelled "exercise " m.exercise ++ labelled " answer " m.number ++ labelled " place " m.place ++ codes "\n"

-- the whole output of `mark`, for the sheet's bytes and the input's
unfoldable pub mark_line : List ℕ → List ℕ → List ℕ
mark_line sheet input = line_of (marked_of sheet input)

-- room that is always enough for it: the three labels, three numbers of at most 20 digits, and the line's end
abbrev pub line_room : ℕ
line_room = 85
