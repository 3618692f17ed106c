-- `recording::lock_line` meets its promise: by whether the summary alone is asked for, and by the answer.
use Rattle.std.proofs.Common.{◌≡◌, [], inl, inr, arith}
use Rattle.letters.proofs.Buffers.{wrote_none}
use Rattle.letters.proofs.Handing.{within_wrote}
use Rattle.telling.specs.Pieces.{line_text}
use Rattle.telling.specs.Lines.{lost_line}
use Rattle.telling.specs.Rooms.{line_room}
use Rattle.recording.specs.Lines.{bit_before, lock_text, lock_line_of}
use Rattle.recording.proofs.lock_line.Goals as goal

pub returns-then-short : goal.returns-then-short
unfolding lock_line_of
returns-then-short c = rw c.if-short.true (wrote_none c.args.out.now 0, omega arith)

pub returns-in-Locked : goal.returns-in-Locked
unfolding lock_line_of
returns-in-Locked c =
    rw (c.if-short.false, c.in-Locked.is, ← c.bit_before-bit.ensures, c.written.ensures)
    (within_wrote line_room c.lock.ensures (omega arith))

pub returns-in-Lost : goal.returns-in-Lost
unfolding lock_line_of
returns-in-Lost c =
    let lost : lock_text c.args.taken.answer c.bit_before-bit.result ≡ line_text (lost_line c.bit_before-bit.result) =
    elim c.in-Lost.is [ inl e ↦ rw e | inr (group, e) ↦ rw e ] in
    rw (c.if-short.false, ← c.bit_before-bit.ensures, lost, c.written-in-Lost.ensures)
    (within_wrote line_room c.lost.ensures (omega arith))

pub returns-in-Nothing : goal.returns-in-Nothing
unfolding lock_line_of
returns-in-Nothing c =
    let none : lock_text c.args.taken.answer (bit_before c.args.before c.args.taken.byte c.args.taken.bit) ≡ [] =
    elim c.in-Nothing.is [ inl e ↦ rw e | inr (inl (group, e)) ↦ rw e | inr (inr e) ↦ rw e ] in
    rw (c.if-short.false, none) (wrote_none c.args.out.now 0, omega arith)
