-- The invariant of `asking::exercise::named`: the rest of the text spells the exercise, behind what was read.
use Rattle.std.proofs.Common.{◌≡◌, ◌≤◌, drop}
use Rattle.asking.specs.Exercise.{last_exercise, named_from, named_of}
use Rattle.asking.proofs.exercise.named.Given as goal

abbrev pub invariant-loop-character : goal.invariant-loop-character
invariant-loop-character l =
    record {
      within : l.exercise ≤ last_exercise;
      rest : named_of l.text ≡ named_from (drop l.character-index l.text) l.exercise;
    }
