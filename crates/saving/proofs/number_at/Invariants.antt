-- The invariant of `saving::number_at`.
use Rattle.receiver.specs.Feeding.{byte_bits}
use Rattle.bits.specs.Bytes.{bit_at}
use Rattle.bits.specs.Spell.{spell}
use Prim.Native.Nat.{◌*◌}
use mathlib.Core.Path.{◌≡◌}
use Rattle.saving.proofs.number_at.Given as goal

abbrev pub invariant-loop-i : goal.invariant-loop-i
invariant-loop-i l = l.number ≡ spell (bit_at l.bytes) (byte_bits * l.from) (byte_bits * l.i)
