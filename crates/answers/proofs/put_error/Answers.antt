-- `answers::put_error` meets its promise: by whether the number is 0.
use native.Mathlib.Omega.{arith}
use borrow.Author.Tests.{eq-eqb, ne_eqb}
use Rattle.letters.proofs.Buffers.{wrote_none, wrote_two}
use Rattle.letters.proofs.Puts.{put_wrote}
use Rattle.answers.proofs.put_error.Goals as goal

pub returns-then-number-eq0 : goal.returns-then-number-eq0
returns-then-number-eq0 c =
    rw (eq-eqb c.args.number 0 (omega arith))
    (wrote_none c.args.out.now 0, omega arith)

pub returns : goal.returns
returns c =
    let end = put_wrote (omega arith) c.put_byte.ensures in
    rw (ne_eqb c.args.number 0 (λ e. omega arith))
    (wrote_two c.args.out.now 0 (omega arith) c.put_labelled-one.ensures.0 end, omega arith)
