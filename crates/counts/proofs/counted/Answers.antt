-- `counts::counted` meets its promise: by the answer.
use Rattle.counts.proofs.counted.Goals as goal

pub returns-in-Locked : goal.returns-in-Locked
returns-in-Locked c = rw c.in-Locked.is c.with_lock.ensures

pub returns-in-Group : goal.returns-in-Group
returns-in-Group c = rw c.in-Group.is c.with_group.ensures

pub returns-in-Lost : goal.returns-in-Lost
returns-in-Lost c = rw c.in-Lost.is c.with_loss.ensures

pub returns-in-GroupAndLost : goal.returns-in-GroupAndLost
returns-in-GroupAndLost c =
    rw c.in-GroupAndLost.is (rw c.with_group-in-GroupAndLost.ensures at c.with_loss-in-GroupAndLost.ensures)
