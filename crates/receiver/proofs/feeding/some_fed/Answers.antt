-- `receiver::feeding::some_fed` meets its promise: by whether a bit is left after those that were taken in.
use mathlib.Core.Path.{◌∙◌}
use native.Mathlib.Omega.{arith}
use Rattle.receiver.proofs.feeding.some_fed.Goals as goal

pub returns-then-spot-bytes : goal.returns-then-spot-bytes
returns-then-spot-bytes c = let t = c.fed.ensures in let k = c.run_on-filled.ensures in
    record {
      whole = k.whole ∙ rw (← c.taken_in-next.ensures) t.whole;
      moved = omega (arith, k.moved, t.moved);
      within = t.within;
    }

pub returns-else-spot-bytes : goal.returns-else-spot-bytes
returns-else-spot-bytes c = let k = c.run_on-filled.ensures in
    record {
      whole = k.whole ∙ rw (c.resting.ensures, c.taken_in-next.ensures);
      moved = rw c.resting.ensures (omega (arith, k.within));
      within = rw c.resting.ensures k.within;
    }
