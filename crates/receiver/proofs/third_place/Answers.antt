-- `receiver::third_place` meets its promise: by how the second block was judged.
use Rattle.receiver.proofs.third_place.Goals as goal

pub returns-in-Ok : goal.returns-in-Ok
returns-in-Ok c = rw (c.in-Ok.is, c.place_of.ensures, c.third_kind.ensures)
