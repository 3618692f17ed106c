-- `groups::bytes::word_at` meets its promise: the first 16 bits of the block.
use Rattle.groups.proofs.BlocksInBytes.{block_in-lt, word_in-block}
use borrow.Author.Rules.{rules}
use Rattle.groups.proofs.bytes.word_at.Goals as goal

pub overflow_cast-result : goal.overflow_cast-result
overflow_cast-result c = rw c.block_at.ensures (search (
  block_in-lt c.args.bytes.now
      c.args.number,
  rules,
))

pub returns : goal.returns
returns c = rw c.block_at.ensures (word_in-block c.args.bytes.now
    c.args.number)
