-- `telling::held::put_marks` meets its promise: before each turn the marks so far are written.
use mathlib.Core.Bool.{false}
use native.Mathlib.Omega.{arith}
use Rattle.telling.specs.Station.{mark_text}
use Rattle.telling.proofs.Joined.{turn_next}
use Rattle.telling.proofs.held.put_marks.Goals as goal

pub loop-pair-preserved : goal.loop-pair-preserved
loop-pair-preserved c =
    let put = rw c.mark.ensures.text at c.put.ensures.text in
    let most = rw c.mark.ensures.most at c.put.ensures.most in (
      turn_next mark_text c.args.seen.now c.args.page.now false (omega arith) c.loop-pair.invariant.0 put,
      omega arith,
    )
