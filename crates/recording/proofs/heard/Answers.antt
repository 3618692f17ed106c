-- `recording::heard` meets its promise: each part is what its function promises.
use Rattle.recording.proofs.heard.Goals as goal

pub returns : goal.returns
returns c = rw (c.updated.ensures, c.group.ensures, c.counted.ensures)
