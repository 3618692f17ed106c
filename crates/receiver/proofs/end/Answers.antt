-- `receiver::end` meets its promise: the calls, from the last to the first, and the tables by the fourth place.
use Rattle.receiver.proofs.Ends.{completes_fourth, held_fourth, hand_fourth}
use Rattle.receiver.specs.Machine.{ended_of}
use Rattle.receiver.proofs.end.Goals as goal

pub returns : goal.returns
unfolding ended_of
returns c = let r = c.args.receiver in
    rw (
      c.say.ensures,
      c.next_after.ensures,
      c.given.ensures,
      c.after.ensures,
      c.counted-run.ensures,
      c.with_block-group.ensures,
      c.index-at.ensures,
      completes_fourth r.place r.held,
      held_fourth r.place r.held,
      hand_fourth r.place _,
    )
