-- `receiver::feeding::hunt_on` meets its promise. Feeding on from where the loop is gives the whole answer.
use Rattle.receiver.proofs.Quiet.{shift-limit, hunt_bit}
use Rattle.std.specs.Prelude.{is_some}
use Rattle.receiver.specs.Strides.{number_of}
use Rattle.receiver.specs.Machine.{shift_of}
use Rattle.bits.proofs.ByteBits.{bit_at_lt}
use mathlib.Core.Path.{refl, sym, ap, ◌∙◌}
use borrow.Author.Rules.{rules}
use native.Mathlib.Omega.{arith}
use Rattle.receiver.proofs.feeding.hunt_on.Goals as goal

pub loop-spot-init : goal.loop-spot-init
loop-spot-init c = (refl, search rules, search rules)

pub lock_after-requires : goal.lock_after-requires
lock_after-requires c = let l = c.loop-spot in
    rw (c.shifted-moved.ensures, c.bit_of.ensures)
    (shift-limit l.last _ (bit_at_lt c.args.bytes.now
    (number_of l.spot)))

pub loop-spot-smaller : goal.loop-spot-smaller
loop-spot-smaller c = omega (arith, c.onward-spot.ensures.0)

pub loop-spot-preserved : goal.loop-spot-preserved
loop-spot-preserved c = let l = c.loop-spot in
    let s = c.args.bytes.now in
    let e = c.shifted-moved.ensures
    ∙ ap (shift_of l.last) c.bit_of.ensures in
    let q = ap is_some (sym c.lock_after.ensures)
    ∙ sym c.is_some.ensures ∙ c.if-is_some.false in (
      l.invariant.0
          ∙ hunt_bit s l.spot.byte l.spot.bit _ _ (omega arith) l.invariant.1 c.onward-spot.ensures.0
          c.onward-spot.ensures.1
          l.last l.many (rw (← e) q)
          ∙ rw (← e, ← c.count_after-many.ensures),
      c.onward-spot.ensures.1,
      omega (arith, c.onward-spot.ensures.0),
    )

pub returns-after-loop-spot : goal.returns-after-loop-spot
returns-after-loop-spot c = let l = c.loop-spot in record { whole = l.invariant.0; moved = l.invariant.2; within = l.invariant.1 }

pub returns-then-is_some : goal.returns-then-is_some
returns-then-is_some c = let l = c.loop-spot in
    record { whole = l.invariant.0; moved = l.invariant.2; within = l.invariant.1 }
