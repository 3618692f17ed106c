-- `asking::exercise::named`: a turn reads the next digit, and the rest spells the exercise behind it.
use Rattle.std.proofs.Common.{◌≡◌, ◌+◌, ◌*◌, ◌-◌, get_or, ◌∙◌, arith}
use Rattle.asking.proofs.Digits.{next_named}
use Rattle.asking.proofs.exercise.named.Goals as goal

pub loop-character-preserved : goal.loop-character-preserved
loop-character-preserved c =
    let turn = c.loop-character in
    let more : c.in_ok-exercise.exercise ≡ 10 * turn.exercise + (get_or c.args.text.now turn.character-index 0 - 48) =
    omega (arith, c.in_ok-tens.ensures, c.in_ok-exercise.ensures) in
    record {
      within = omega (arith, c.in_ok-exercise.ensures);
      rest = rw more (turn.invariant.rest ∙ next_named c.args.text.now turn.character-index turn.exercise
          c.loop-character-test.true (grind arith));
    }
