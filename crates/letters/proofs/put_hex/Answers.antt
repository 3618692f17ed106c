-- `letters::put_hex` meets its promise: the two bytes of the word, two digits each.
use Prim.Native.Nat.{◌/◌, ◌%◌, ◌^◌}
use mathlib.Core.Path.{◌≡◌}
use native.Mathlib.Omega.{arith}
use Rattle.letters.specs.Letters.{hex_four}
use Rattle.letters.proofs.put_hex.Goals as goal

pub returns : goal.returns
unfolding hex_four
returns c =
    let high : c.args.word / 256 ^ 1 % 256 ≡ c.args.word / 256 = omega arith in
    let digits = rw (c.hex_digit.ensures, c.hex_digit-2.ensures, c.hex_digit-3.ensures, c.hex_digit-4.ensures) at
    c.put.ensures in
    rw (c.to_be_bytes.ensures, high) at digits
