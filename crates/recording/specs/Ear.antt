-- What is kept from bit to bit of a recording, and what an answer makes of it.
use Rattle.std.specs.Prelude.{ℕ, zero, suc, ◌+◌, ◌*◌, List, length}
use Rattle.bits.specs.Bytes.{bit_at}
use Rattle.receiver.specs.Answers.{group_of}
use Rattle.receiver.specs.Machine.{fresh_of as fresh_receiver, step_of}
use Rattle.receiver.specs.Feeding.{byte_bits}
use Rattle.receiver.specs.declared.Advanced.{Advanced}
use Rattle.station.specs.Record.{fresh_of as fresh_station}
use Rattle.station.specs.Update.{updated_of}
use Rattle.counts.specs.Counts.{no_counts, counted_of}
use Rattle.recording.specs.declared.Ear.{Ear}

-- nothing has come: the fresh record answers an empty recording
abbrev pub fresh_ear : Ear
fresh_ear = record { receiver = fresh_receiver; station = fresh_station; counts = no_counts }

-- the receiver's next state, the record with the group (the empty one, where none is answered, counts for nothing), the
-- counts with the answer
abbrev pub heard_of : Ear → Advanced → Ear
heard_of ear taken =
    record {
      receiver = taken.next;
      station = updated_of ear.station (group_of taken.answer);
      counts = counted_of ear.counts taken.answer;
    }

-- one bit: what the receiver answers to it
abbrev pub took_of : Ear → ℕ → Ear
took_of ear bit =
    record {
      receiver = (step_of ear.receiver bit).next;
      station = updated_of ear.station (group_of (step_of ear.receiver bit).answer);
      counts = counted_of ear.counts (step_of ear.receiver bit).answer;
    }

-- n bits of a piece, from bit i on
unfoldable pub took_from : Ear → List ℕ → ℕ → ℕ → Ear
took_from ear piece i zero = ear
took_from ear piece i (suc n) = took_from (took_of ear (bit_at piece i)) piece (i + 1) n

-- all bits of a piece, one after the other
unfoldable pub hear_of : Ear → List ℕ → Ear
hear_of ear piece = took_from ear piece 0 (byte_bits * length piece)
