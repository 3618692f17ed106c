-- `blocks::leftover` meets its promise. Before row i the sum is what the word's bits above bit 15 - i leave; the
-- code's table is compared with the division once, where the loop begins.
use Prim.Native.Nat.{ℕ, ◌-◌, ◌/◌, ◌^◌}
use mathlib.Core.Path.{◌≡◌, refl, ap, ◌∙◌}
use mathlib.Core.List.{List}
use lib.ListN.{get_or}
use lib.Bits.{bit_xor}
use native.Mathlib.Nat.{div-one}
use borrow.Author.Rules.{rules}
use native.Mathlib.Omega.{arith}
use Rattle.blocks.specs.Divide.{over_bits, reduced, remainder}
use Rattle.blocks.proofs.Rows.{rows_of, rows_unset, rows-set}
use Rattle.blocks.proofs.leftover.Goals as goal
use Rattle.blocks.proofs.leftover.Goals.{then-word-i-eq1, else-word-i-eq1}

pub loop-i-init : goal.loop-i-init
unfolding rows_of remainder over_bits reduced
loop-i-init c = (refl, search rules, let z : c.args.word / 2 ^ 16 ≡ 0 = omega arith in rw z)

pub loop-i-preserved : goal.loop-i-preserved
loop-i-preserved c = (
  search rules,
  search rules,
  elim c.if-word-i-eq1.branch [
    | then-word-i-eq1 w ↦
        w.sum-is ∙ ap (λ (rows : List ℕ). bit_xor c.loop-i.sum (get_or rows c.loop-i.i 0)) c.loop-i.invariant.0
        ∙ rows-set c.args.word c.loop-i.i c.loop-i.sum (omega arith) w.if-word-i-eq1.true c.loop-i.invariant.2
    | else-word-i-eq1 w ↦
        w.sum-is
        ∙ rows_unset c.args.word c.loop-i.i c.loop-i.sum (omega arith) (omega (arith, w.if-word-i-eq1.false))
        c.loop-i.invariant.2
  ],
)

pub returns : goal.returns
returns c = let e : 16 - c.loop-i.i ≡ 0 = omega arith in
    rw (e, div-one c.args.word) at c.loop-i.invariant.2
