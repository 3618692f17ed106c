-- `listening::Listener::hear`: before each turn the rest of the bits is still to be heard, and each turn moves on.
use Rattle.std.proofs.Common.{◌≡◌, ◌*◌, ◌-◌, ◌<◌, length}
use Rattle.receiver.specs.Feeding.{byte_bits}
use Rattle.recording.specs.Ear.{hear_of}
use Rattle.recording.proofs.Advances.{at, rest}
use Rattle.listening.proofs.Listener.hear.Given as goal

abbrev pub invariant-loop-byte : goal.invariant-loop-byte
invariant-loop-byte g l =
    (l.bit < byte_bits) × (hear_of l.initial.ear l.piece ≡ rest l.ear l.piece l.byte l.bit)

abbrev pub decreases-loop-byte : goal.decreases-loop-byte
decreases-loop-byte g l = byte_bits * length l.piece - at l.byte l.bit
