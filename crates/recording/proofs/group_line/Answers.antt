-- `recording::group_line` meets its promise: by whether the summary alone is asked for, and by the answer.
use Rattle.std.proofs.Common.{◌≡◌, false, inl, inr, arith}
use Rattle.receiver.specs.Answers.{brings_group}
use Rattle.letters.proofs.Buffers.{wrote_none}
use Rattle.letters.proofs.Handing.{within_wrote}
use Rattle.telling.specs.Rooms.{group_room}
use Rattle.recording.specs.Lines.{group_line}
use Rattle.recording.proofs.group_line.Goals as goal

pub returns-then-short : goal.returns-then-short
unfolding group_line
returns-then-short c = rw c.if-short.true (wrote_none c.args.out.now 0, omega arith)

pub returns-in-Group : goal.returns-in-Group
unfolding group_line
returns-in-Group c =
    rw (c.if-short.false, c.in-Group.is, c.written.ensures) (within_wrote group_room c.group.ensures (omega arith))

pub returns-in-GroupAndLost : goal.returns-in-GroupAndLost
unfolding group_line
returns-in-GroupAndLost c =
    rw (c.if-short.false, c.in-GroupAndLost.is, c.written-in-GroupAndLost.ensures)
    (within_wrote group_room c.group-in-GroupAndLost.ensures (omega arith))

pub returns-in-Nothing : goal.returns-in-Nothing
unfolding group_line
returns-in-Nothing c =
    let brings : brings_group c.args.taken.answer ≡ false =
    elim c.in-Nothing.is [ inl e ↦ rw e | inr (inl e) ↦ rw e | inr (inr (inl e)) ↦ rw e | inr (inr (inr e)) ↦ rw e ] in
    rw (c.if-short.false, brings) (wrote_none c.args.out.now 0, omega arith)
