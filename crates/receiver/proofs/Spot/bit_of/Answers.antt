-- `receiver::Spot::bit_of` meets its promise: the byte and the bit of that byte are those of the bit number.
use Prim.Native.Nat.{◌+◌, ◌*◌, ◌/◌, ◌%◌}
use mathlib.Core.Path.{◌≡◌}
use Rattle.bits.specs.Bytes.{bit_at}
use Rattle.receiver.specs.Feeding.{byte_bits}
use native.Mathlib.Omega.{arith}
use Rattle.receiver.proofs.Spot.bit_of.Goals as goal

pub returns : goal.returns
unfolding bit_at
returns c = let p : (byte_bits * c.args.self.byte + c.args.self.bit) / byte_bits ≡ c.args.self.byte = omega arith in
    let q : (byte_bits * c.args.self.byte + c.args.self.bit) % byte_bits ≡ c.args.self.bit = omega arith in rw (p, q)
