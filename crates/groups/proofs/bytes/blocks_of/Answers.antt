-- `groups::bytes::blocks_of` meets its promise: block by block.
use Rattle.groups.specs.Written.{blocks_of}
use Rattle.groups.proofs.bytes.blocks_of.Goals as goal

pub returns : goal.returns
unfolding blocks_of
returns c = rw (
  c.write-4.ensures,
  c.write-3.ensures,
  c.third_kind.ensures,
  c.write-2.ensures,
  c.write.ensures,
)
