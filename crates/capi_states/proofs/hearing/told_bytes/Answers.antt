-- `told_bytes` is what `told_of` says, byte by byte; a word's high byte is below 256.
use Prim.Native.Nat.{ℕ, ◌/◌, ◌%◌, ◌<◌}
use mathlib.Core.Path.{◌≡◌}
use native.Mathlib.Omega.{arith}
use Rattle.bits.proofs.Flags.{flag_number}
use Rattle.groups.specs.Group.{word_of}
use Rattle.capi_states.specs.Hearing.{told_of}
use Rattle.capi_states.proofs.hearing.told_bytes.Goals as goal

high_byte : (word : ℕ) → word < 65536 → word / 256 % 256 ≡ word / 256
high_byte word h = omega arith

pub returns : goal.returns
unfolding told_of
returns c =
    let g = c.group-group.result in
    let one : word_of g 0 / 256 % 256 ≡ word_of g 0 / 256 = rw c.word.ensures at (high_byte c.word.result (omega arith)) in
    let two : word_of g 1 / 256 % 256 ≡ word_of g 1 / 256 = rw c.word-2.ensures at (high_byte c.word-2.result (omega arith)) in
    let three : word_of g 2 / 256 % 256 ≡ word_of g 2 / 256 = rw c.word-3.ensures at (high_byte c.word-3.result (omega arith)) in
    let four : word_of g 3 / 256 % 256 ≡ word_of g 3 / 256 = rw c.word-4.ensures at (high_byte c.word-4.result (omega arith)) in
    rw (
      c.answer_code.ensures,
      c.from.ensures,
      c.good.ensures,
      c.from-2.ensures,
      c.good-2.ensures,
      c.from-3.ensures,
      c.good-3.ensures,
      c.from-4.ensures,
      c.good-4.ensures,
      c.to_be_bytes-one.ensures,
      c.to_be_bytes-two.ensures,
      c.to_be_bytes-three.ensures,
      c.to_be_bytes-four.ensures,
      c.word.ensures,
      c.word-2.ensures,
      c.word-3.ensures,
      c.word-4.ensures,
      ← c.group-group.ensures,
    )
    (simp (flag_number, one, two, three, four))
