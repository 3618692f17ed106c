-- `receiver::feeding::fed` meets its promise: one step, and the place after its bit.
use Rattle.receiver.proofs.Feeds.{feed-one}
use native.Mathlib.Omega.{arith}
use Rattle.receiver.proofs.feeding.fed.Goals as goal

pub returns : goal.returns
returns c = let a = c.args in
    record {
      whole = rw (c.stopped.ensures, c.step-taken.ensures.0, c.bit_of.ensures)
          (feed-one a.receiver a.bytes.now a.from.byte a.from.bit _ _ c.requires.0 c.requires.1
          c.onward.ensures.0 c.onward.ensures.1);
      moved = rw c.stopped.ensures (omega arith);
      within = rw c.stopped.ensures c.onward.ensures.1;
    }
