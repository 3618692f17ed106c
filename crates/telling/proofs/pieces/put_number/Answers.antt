-- `telling::pieces::put_number` meets its promise: a u64 has at most 20 decimal digits.
use native.Mathlib.Omega.{arith}
use Rattle.letters.proofs.Puts.{put_wrote}
use Rattle.letters.proofs.Sizes.{decimal_most}
use Rattle.telling.proofs.pieces.put_number.Goals as goal

pub returns : goal.returns
returns c =
    let most = decimal_most c.args.number (omega arith) in
    let wrote = put_wrote (omega arith) c.put_number.ensures in
    (wrote, omega arith)
