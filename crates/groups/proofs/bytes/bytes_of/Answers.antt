-- `groups::bytes::bytes_of` meets its promise: the four blocks packed.
use Rattle.groups.specs.Written.{group_bytes, blocks_of}
use Rattle.groups.proofs.bytes.bytes_of.Goals as goal

pub returns : goal.returns
unfolding group_bytes blocks_of
returns c = rw (c.packed.ensures, c.blocks_of.ensures)
