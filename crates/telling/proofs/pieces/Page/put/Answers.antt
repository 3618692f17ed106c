-- `telling::pieces::Page::put` meets its promise: the text of the piece stands behind what was written.
use Prim.Native.Nat.{ℕ}
use mathlib.Core.Path.{ap, ◌∙◌}
use mathlib.Core.List.{List, ◌++◌}
use native.Mathlib.Omega.{arith}
use Rattle.letters.proofs.Buffers.{wrote_take}
use Rattle.telling.specs.Pieces.{piece_of, piece_text}
use Rattle.telling.proofs.pieces.Page.put.Goals as goal

pub returns-clause-text : goal.returns-clause-text
returns-clause-text g c =
    let page = c.self.inside in
    wrote_take page.buffer page.length (omega (arith, c.self.invariant, c.self.told)) c.put_piece-self-inside.ensures.0
    ∙ ap (λ (l : List ℕ). l ++ piece_text (piece_of c.args.piece)) c.self.view_is
