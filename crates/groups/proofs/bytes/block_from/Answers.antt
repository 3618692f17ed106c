-- `groups::bytes::block_from` meets its promise: 26 of the 32 bits of four bytes.
use Rattle.groups.proofs.BlocksInBytes.{block_in_bytes}
use Rattle.groups.proofs.bytes.block_from.Goals as goal

pub returns : goal.returns
returns c =
    rw (c.from_be_bytes.ensures, c.byte_at-4.ensures, c.byte_at-3.ensures, c.byte_at-2.ensures, c.byte_at.ensures)
    (block_in_bytes c.args.bytes.now (λ i. (c.type_inv.bytes i).fits) c.args.place c.requires)
