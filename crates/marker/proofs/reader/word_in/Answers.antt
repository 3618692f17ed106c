-- `marker::reader::word_in` meets its promise: the first 16 bits of the block.
use Rattle.groups.proofs.BlocksInBytes.{block_in-lt, word_in-block}
use borrow.Author.Rules.{rules}
use Rattle.marker.proofs.reader.word_in.Goals as goal

pub overflow_cast-result : goal.overflow_cast-result
overflow_cast-result c = rw c.block_in.ensures
    (search (block_in-lt c.args.bytes.now c.args.number, rules))

pub returns : goal.returns
returns c = rw c.block_in.ensures (word_in-block c.args.bytes.now
    c.args.number)
