-- `keys::key_at` meets its contract: the slice that is copied is the record.
use Rattle.std.proofs.Common.{arith, ◌≡◌, ◌+◌, ◌-◌, ◌*◌}
use Rattle.keys.specs.Sheet.{record_size, key_at}
use Rattle.keys.proofs.key_at.Goals as goal

pub returns : goal.returns
unfolding key_at
returns c =
    let from = record_size * c.args.exercise in
    let size : from + record_size - from ≡ record_size = omega arith in
    let copied = c.copy_from_slice.ensures.after in
    cc
