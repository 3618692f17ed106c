-- `saving::number_at` meets its promise. Before byte i the number is what the bytes so far spell.
use Rattle.saving.proofs.Saves.{spell_next, spell_room}
use Rattle.receiver.specs.Feeding.{byte_bits}
use Rattle.bits.specs.Spell.{spell}
use Prim.Native.Nat.{◌*◌}
use mathlib.Core.Path.{refl, sym, ◌∙◌}
use native.Mathlib.Omega.{arith}
use Rattle.saving.proofs.number_at.Goals as goal

pub loop-i-init : goal.loop-i-init
unfolding spell
loop-i-init c = refl

pub overflow_mul-number : goal.overflow_mul-number
overflow_mul-number c = let a = c.args in let l = c.loop-i in
    omega (arith, rw (← l.invariant) at (spell_room a.bytes.now (byte_bits * a.from) l.i (omega arith)))

pub overflow_add-number : goal.overflow_add-number
overflow_add-number c = let a = c.args in let l = c.loop-i in
    omega (arith, rw (← l.invariant) at (spell_room a.bytes.now (byte_bits * a.from) l.i (omega arith)))

pub loop-i-preserved : goal.loop-i-preserved
loop-i-preserved c = let a = c.args in let l = c.loop-i in
    sym (spell_next a.bytes.now (λ j. (c.type_inv.bytes j).fits) a.from l.i
    ∙ rw (l.invariant, c.from.ensures, c.byte_at.ensures))
