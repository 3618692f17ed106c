-- `files::fill`: what is there stays within the buffer, with no room for any the reading stays fresh, and with each
-- call less is left to read.
use Rattle.std.proofs.Common.{◌≡◌, ◌≤◌, length}
use Rattle.asking.specs.declared.reading.Reading.TheVariants.{GoOn}
use Rattle.asking.specs.Reading.{there_of}
use Rattle.asking.proofs.Calls.{left_of}
use Rattle.files.proofs.fill.Given as goal

abbrev pub invariant-loop-there : goal.invariant-loop-there
invariant-loop-there g l =
    record { within : there_of l.reading ≤ length l.buffer; fresh : length l.buffer ≡ 0 → l.reading ≡ GoOn 0 }

abbrev pub decreases-loop-there : goal.decreases-loop-there
decreases-loop-there g l = left_of l.reading (length l.buffer)
