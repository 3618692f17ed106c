-- `counts::bad_with` meets its promise: by whether all blocks were good.
use Rattle.counts.proofs.bad_with.Goals as goal

pub returns-then-is_all_good : goal.returns-then-is_all_good
returns-then-is_all_good c = rw (← c.is_all_good.ensures, c.if-is_all_good.true)

pub returns-else-is_all_good : goal.returns-else-is_all_good
returns-else-is_all_good c = rw (← c.is_all_good.ensures, c.if-is_all_good.false) c.more.ensures
