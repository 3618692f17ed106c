-- What is told of a recording: a line for each group, each lock and each loss, and at the end the summary. Where the
-- summary alone is asked for, nothing before it.
use Rattle.std.specs.Prelude.{ℕ, ◌+◌, ◌-◌, ◌*◌, ◌%◌, ◌^◌, Bool, cond, List, []}
use Rattle.receiver.specs.declared.Answer.{Answer}
use Rattle.receiver.specs.declared.Answer.TheVariants as answer
use Rattle.receiver.specs.declared.Advanced.{Advanced}
use Rattle.receiver.specs.Answers.{brings_group, group_of}
use Rattle.telling.specs.Pieces.{line_text}
use Rattle.telling.specs.Lines.{lock_line, lost_line, group_text}
use Rattle.telling.specs.Station.{station_text}
use Rattle.telling.specs.Totals.{counts_line}
use Rattle.recording.specs.declared.Ear.{Ear}

-- ---- numbers of bits, from 0; they go round at 2 to the 64

-- the bit before a place of a piece, where so many bits came before the piece
abbrev pub bit_before : ℕ → ℕ → ℕ → ℕ
bit_before before byte bit = (before + 8 * byte + bit + (2 ^ 64 - 1)) % 2 ^ 64

-- so many bits came with so many bytes more
abbrev pub bits_after : ℕ → ℕ → ℕ
bits_after before bytes = (before + 8 * bytes) % 2 ^ 64

-- ---- an answer

-- its group, with the number of the groups before it
unfoldable pub group_line : Bool → Ear → Advanced → List ℕ
group_line short ear taken =
    cond short [] (cond (brings_group taken.answer) (group_text ear.counts.groups (group_of taken.answer)) [])

-- lock taken, or lost, with a bit
abbrev pub lock_text : Answer → ℕ → List ℕ
lock_text answer.Nothing bit = []
lock_text answer.Locked bit = line_text (lock_line bit)
lock_text (answer.Group group) bit = []
lock_text answer.Lost bit = line_text (lost_line bit)
lock_text (answer.GroupAndLost group) bit = line_text (lost_line bit)
lock_text answer.Refused bit = []

-- with the bit that brought the answer: the one before the next place
unfoldable pub lock_line_of : Bool → ℕ → Advanced → List ℕ
lock_line_of short before taken =
    cond short [] (lock_text taken.answer (bit_before before taken.byte taken.bit))

-- ---- the summary

abbrev pub record_text : Ear → List ℕ
record_text ear = station_text ear.station

abbrev pub counts_text : Ear → List ℕ
counts_text ear = line_text (counts_line ear.counts)
