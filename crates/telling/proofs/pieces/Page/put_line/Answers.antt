-- `telling::pieces::Page::put_line` meets its promise: before each turn the pieces so far are written.
use mathlib.Core.List.{[]}
use lib.ListN.{get_or}
use native.Mathlib.Omega.{arith}
use Rattle.telling.specs.declared.pieces.Piece.TheVariants.{Word}
use Rattle.telling.proofs.Joined.{told_text, joined_pieces, most_20, turn_next, turn_last}
use Rattle.telling.proofs.pieces.Page.put_line.Goals as goal

pub loop-piece-preserved : goal.loop-piece-preserved
loop-piece-preserved g c =
    let none = Word record { ref_ptr = (0, 0); now = [] } in
    let most = most_20 (get_or c.args.line.now c.loop-piece.piece-index none) in (
      turn_next told_text c.args.line.now c.args.self.now none (omega arith) c.loop-piece.invariant.0
          c.put.ensures.text,
      omega (arith, c.put.ensures.most),
    )

pub returns-clause-text : goal.returns-clause-text
returns-clause-text g c =
    let all = turn_last told_text c.args.line.now c.args.self.now (omega arith) c.loop-piece.invariant.0 in
    rw joined_pieces at all
