-- `letters::put` meets its promise: the text is told to the buffer from byte `at` on.
use native.Mathlib.Omega.{arith}
use Rattle.letters.proofs.Puts.{put-none, part_rest, part_end, tells_put}
use Rattle.letters.proofs.put.Goals as goal

pub returns-then-out-at : goal.returns-then-out-at
returns-then-out-at c = put-none c.args.text.now _ _ (omega arith)

pub returns : goal.returns
returns c =
    rw (c.written.ensures, part_end c.args.out.now c.tell.new.out c.args.at)
    (tells_put (omega arith) (part_rest c.args.out.now c.args.at) c.tell.ensures)
