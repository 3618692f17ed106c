-- `answers::put_labelled` meets its promise: the label, and the number behind it.
use native.Mathlib.Omega.{arith}
use Rattle.letters.proofs.Buffers.{wrote_two}
use Rattle.letters.proofs.Puts.{put_wrote}
use Rattle.letters.proofs.Sizes.{decimal_most}
use Rattle.answers.proofs.put_labelled.Goals as goal

pub returns : goal.returns
returns c =
    let most = decimal_most c.args.number (omega arith) in
    let one = put_wrote (omega arith) c.put-next.ensures in
    let two = put_wrote (omega arith) c.put_number.ensures in
    (wrote_two c.args.out.now c.args.at (omega arith) one two, omega arith)
