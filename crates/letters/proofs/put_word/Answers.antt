-- `letters::put_word` meets its promise: the bytes of the number from the first that is not 0 on are its letters.
use native.Mathlib.Omega.{arith}
use Rattle.std.specs.Int.{to_be_bytes, w64}
use Rattle.letters.proofs.Bytes.{bytes_from}
use Rattle.letters.proofs.Puts.{part_rest}
use Rattle.letters.proofs.put_word.Goals as goal

pub returns : goal.returns
returns c =
    rw (
      c.to_be_bytes-bytes.ensures,
      part_rest (to_be_bytes w64 c.args.letters) c.min-first.result,
      bytes_from c.args.letters c.min-first.result (omega arith) c.min-first.ensures,
    ) at c.put.ensures
