-- `groups::bytes::packed` meets its promise: of a number's sixteen bytes the last thirteen.
use mathlib.Core.Path.{◌∙◌}
use Rattle.groups.specs.Written.{four_blocks}
use Rattle.groups.proofs.Packing.{last_thirteen}
use Rattle.groups.proofs.bytes.packed.Goals as goal

pub returns : goal.returns
unfolding four_blocks
returns c =
    c.copy_from_slice.ensures.after
    ∙ rw (c.to_be_bytes-wide.ensures, last_thirteen) (rw (c.from-block.ensures, c.from.ensures, c.from-2.ensures, c.from-3.ensures, c.from-4.ensures))
