-- `receiver::Receiver::advance` meets its promise. Feeding on from where the loop is gives the whole answer.
use mathlib.Core.Path.{refl, ◌∙◌}
use Rattle.receiver.proofs.Feeds.{advance-end, advance_no-bit, then_stop, advance_settled}
use Rattle.receiver.proofs.Same.{other-nothing}
use borrow.Author.Rules.{rules}
use native.Mathlib.Omega.{arith}
use Rattle.receiver.proofs.Receiver.advance.Goals as goal

pub returns-then-bit-ge-BYTE_BITS : goal.returns-then-bit-ge-BYTE_BITS
returns-then-bit-ge-BYTE_BITS c = let a = c.args in
    rw c.resting.ensures
    (advance_settled _ a.self a.bytes.now a.byte a.bit
    (advance_no-bit a.self a.bytes.now a.byte a.bit (omega arith)))

pub loop-spot-init : goal.loop-spot-init
loop-spot-init c = (refl, search rules)

pub loop-spot-smaller : goal.loop-spot-smaller
loop-spot-smaller c = omega (
  arith,
  c.some_fed-taken.ensures.moved,
  c.some_fed-taken.ensures.within,
)

pub returns-in_default : goal.returns-in_default
returns-in_default c = let a = c.args in
    advance_settled _ a.self a.bytes.now a.byte a.bit
    (c.loop-spot.invariant.0 ∙ c.some_fed-taken.ensures.whole
    ∙ then_stop c.some_fed-taken.result _ (other-nothing c.some_fed-taken.result.answer c.in_default.not-Nothing))

pub returns : goal.returns
returns c = let a = c.args in let l = c.loop-spot in
    rw c.resting-2.ensures
    (advance_settled _ a.self a.bytes.now a.byte a.bit
    (l.invariant.0 ∙ advance-end l.next a.bytes.now l.spot.byte l.spot.bit l.invariant.1 (omega arith)))
