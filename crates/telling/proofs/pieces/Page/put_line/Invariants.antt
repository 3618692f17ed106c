-- The invariant of `telling::pieces::Page::put_line`: before each turn the pieces so far are written.
use Prim.Native.Nat.{◌+◌, ◌*◌, ◌≤◌}
use mathlib.Core.Path.{◌≡◌}
use mathlib.Core.List.{◌++◌}
use lib.ListN.{length, take}
use Rattle.letters.specs.Letters.{joined}
use Rattle.telling.proofs.Joined.{told_text}
use Rattle.telling.proofs.pieces.Page.put_line.Given as goal

abbrev pub invariant-loop-piece : goal.invariant-loop-piece
invariant-loop-piece g l =
    (l.self ≡ l.initial.self ++ joined told_text (take l.piece-index l.line))
    × (length l.self ≤ length l.initial.self + 20 * l.piece-index)
