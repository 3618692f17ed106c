-- `encoder::word2` meets its contract: it is the sum of the fields at their places.
use Rattle.std.proofs.Common.{◌≡◌, arith, refl, Bool, true, false, cond}
use Rattle.std.specs.Int.{from_bool}
use Rattle.encoder.specs.Words.{word2_of}
use Rattle.encoder.proofs.word2.Goals as goal

-- a flag as a number
flag_bit : (b : Bool) → from_bool b ≡ cond b 1 0
flag_bit true = refl
flag_bit false = refl

pub returns : goal.returns
unfolding word2_of
returns c =
    let tp = rw (c.tp.ensures, flag_bit) at c.from-tp.ensures in
    omega (arith, tp)
