-- `receiver::feeding::fill` meets its promise. Feeding on from where the loop is gives the whole answer.
use Rattle.receiver.proofs.Quiet.{inside_bit}
use Rattle.receiver.specs.Machine.{shift_of}
use mathlib.Core.Path.{refl, ap, ◌∙◌}
use borrow.Author.Rules.{rules}
use native.Mathlib.Omega.{arith}
use Rattle.receiver.proofs.feeding.fill.Goals as goal

pub loop-many-init : goal.loop-many-init
loop-many-init c = ((λ r h. refl), search rules, search rules)

pub loop-many-preserved : goal.loop-many-preserved
loop-many-preserved c = let l = c.loop-many in
    let s = c.args.bytes.now in
    let e = c.shifted-last.ensures ∙ ap (shift_of l.last) c.bit_of.ensures in (
      (λ r h. l.invariant.0 r h
          ∙ inside_bit s l.spot.byte l.spot.bit _ _ (omega arith) l.invariant.1 c.onward-spot.ensures.0
          c.onward-spot.ensures.1
          r l.last l.many h (omega arith)
          ∙ rw (← e)),
      c.onward-spot.ensures.1,
      omega (arith, c.onward-spot.ensures.0),
    )

pub returns-after-loop-many : goal.returns-after-loop-many
returns-after-loop-many c = let l = c.loop-many in record { whole = l.invariant.0; moved = l.invariant.2; within = l.invariant.1 }

pub returns-else-spot-bytes : goal.returns-else-spot-bytes
returns-else-spot-bytes c = let l = c.loop-many in record { whole = l.invariant.0; moved = l.invariant.2; within = l.invariant.1 }
