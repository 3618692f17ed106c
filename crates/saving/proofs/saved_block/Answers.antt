-- `saving::saved_block` meets its promise: by the mask.
use Rattle.saving.specs.Saving.{words_at}
use Rattle.receiver.specs.Feeding.{byte_bits}
use Rattle.bits.proofs.ByteBits.{bit_at_lt}
use Rattle.bits.proofs.Spelling.{spell_lt}
use Rattle.bits.specs.Bytes.{bit_at}
use Prim.Native.Nat.{◌+◌, ◌*◌}
use borrow.Author.Tests.{lt-ltb, le-ltb}
use native.Mathlib.Omega.{arith}
use Rattle.saving.proofs.saved_block.Goals as goal

pub overflow_cast-result : goal.overflow_cast-result
overflow_cast-result c = let a = c.args in
    omega (
      arith,
      rw (← c.number_at.ensures) at
          (spell_lt (bit_at a.bytes.now) (bit_at_lt a.bytes.now) (byte_bits * (words_at + 2 * a.i)) 16),
    )

pub returns-then-byte_at-gt0 : goal.returns-then-byte_at-gt0
returns-then-byte_at-gt0 c = rw (
  ← c.byte_at.ensures,
  lt-ltb 0 c.byte_at.result c.if-byte_at-gt0.true,
  c.number_at.ensures,
)

pub returns-else-byte_at-gt0 : goal.returns-else-byte_at-gt0
returns-else-byte_at-gt0 c = rw (← c.byte_at.ensures, le-ltb 0 c.byte_at.result c.if-byte_at-gt0.false)
