-- `receiver::locked_place` meets its promise: by the kind of the older block.
use Rattle.receiver.proofs.locked_place.Goals as goal

pub returns-in-A : goal.returns-in-A
returns-in-A c = rw (c.in-A.is, c.third_place.ensures)
