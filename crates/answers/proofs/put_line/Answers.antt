-- `answers::put_line` meets its promise: three numbers behind their labels, and the line's end.
use native.Mathlib.Omega.{arith}
use Rattle.answers.specs.Line.{line_of}
use Rattle.letters.proofs.Buffers.{wrote_two}
use Rattle.letters.proofs.Puts.{put_wrote}
use Rattle.answers.proofs.put_line.Goals as goal

pub returns : goal.returns
unfolding line_of
returns c =
    let out = c.args.out.now in
    let end = put_wrote (omega arith) c.put_byte.ensures in
    let two = wrote_two out 0 (omega arith) c.put_labelled-one.ensures.0 c.put_labelled-two.ensures.0 in
    let three = wrote_two out 0 (omega arith) two c.put_labelled-three.ensures.0 in
    let line = wrote_two out 0 (omega arith) three end in
    (rw (c.from.ensures, c.from-2.ensures) at line, omega arith)
