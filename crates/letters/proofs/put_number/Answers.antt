-- `letters::put_number` meets its promise: the library's digits are the definition's.
use native.Mathlib.Omega.{arith}
use Rattle.letters.proofs.Decimals.{decimal_same}
use Rattle.letters.proofs.put_number.Goals as goal

pub returns : goal.returns
returns c =
    rw (c.as_bytes.ensures.value, c.format.ensures.text, decimal_same c.args.number (omega arith)) at
    c.put.ensures
