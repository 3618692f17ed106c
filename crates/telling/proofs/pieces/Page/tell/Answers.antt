-- `telling::pieces::Page::tell` meets its promise: what is written is no longer than the room.
use Prim.Native.Nat.{◌≤◌}
use native.Mathlib.Omega.{arith}
use lib.ListN.{length, take, length-take}
use Rattle.letters.proofs.Handing.{tells_short-enough}
use Rattle.telling.proofs.pieces.Page.tell.Goals as goal

pub returns : goal.returns
returns g c =
    let page = c.self.inside in
    let short : length (take page.length page.buffer) ≤ g.row.ROOM =
    omega (arith, length-take page.length page.buffer, c.self.invariant) in
    rw c.self.view_is at (tells_short-enough g.row.ROOM short c.tell.ensures)
