-- `receiver::locked` meets its promise: the state after a lock from its parts.
use Rattle.receiver.proofs.Ends.{locked_parts}
use Rattle.receiver.proofs.locked.Goals as goal

pub returns : goal.returns
returns c = let a = c.args in
    rw (
      c.begin.ensures,
      c.locked_hand.ensures,
      c.locked_held.ensures,
      c.locked_place.ensures,
    )
    (locked_parts a.kind a.older a.newer)
