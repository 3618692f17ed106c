-- `receiver::Receiver::step` meets its promise: by whether the bit is refused, and whether it hunts.
use Rattle.receiver.proofs.Refusal.{step_settled}
use Rattle.receiver.proofs.Same.{same-hunting}
use Rattle.receiver.specs.Machine.{step_of}
use borrow.Author.Tests.{lt-ltb, le-ltb}
use native.Mathlib.Omega.{arith}
use Rattle.receiver.proofs.Receiver.step.Goals as goal

pub returns-then-bit-gt-ONE : goal.returns-then-bit-gt-ONE
unfolding step_of
returns-then-bit-gt-ONE c = let a = c.args in
    step_settled _ a.self a.bit (rw (lt-ltb 1 a.bit (omega arith)))

pub returns-then-eq : goal.returns-then-eq
unfolding step_of
returns-then-eq c = let a = c.args in
    step_settled _ a.self a.bit
    (rw (le-ltb 1 a.bit (omega arith), ← same-hunting a.self.place, ← c.eq.ensures, c.if-eq.true, c.hunt.ensures))

pub returns-else-eq : goal.returns-else-eq
unfolding step_of
returns-else-eq c = let a = c.args in
    step_settled _ a.self a.bit
    (rw (le-ltb 1 a.bit (omega arith), ← same-hunting a.self.place, ← c.eq.ensures, c.if-eq.false, c.follow.ensures))
