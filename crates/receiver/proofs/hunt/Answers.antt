-- `receiver::hunt` meets its promise: a hunting bit from its parts.
use Rattle.receiver.proofs.Quiet.{shift-limit, hunt_parts}
use mathlib.Core.Path.{sym}
use Rattle.receiver.proofs.hunt.Goals as goal

pub lock_after-lock-requires : goal.lock_after-lock-requires
lock_after-lock-requires c = rw c.shifted-moved.ensures (shift-limit c.args.window c.args.bit c.requires)

pub returns : goal.returns
returns c = let a = c.args in
    rw (
      c.lock_answer.ensures,
      c.hunted.ensures,
      c.count_after.ensures,
      c.lock_after-lock.ensures,
      c.shifted-moved.ensures,
    ) (sym (hunt_parts a.window a.count a.bit))
