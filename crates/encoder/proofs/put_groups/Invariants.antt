-- The invariant of `encoder::put_groups`: the groups of the addresses so far stand at the front, over the buffer as it
-- was.
use Rattle.std.proofs.Common.{◌≡◌}
use Rattle.encoder.specs.Encoding.{below}
use Rattle.encoder.proofs.BufferLaws.{over_front}
use Rattle.encoder.proofs.put_groups.Given as goal

abbrev pub invariant-loop-address : goal.invariant-loop-address
invariant-loop-address l = l.out ≡ over_front l.key.bytes l.initial.out (below l.address)
