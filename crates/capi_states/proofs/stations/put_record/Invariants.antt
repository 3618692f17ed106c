-- The invariant of `put_record`: before turn i the buffer has the first i bytes, and then its own.
use Rattle.capi_states.specs.Stations.{bytes_to}
use lib.ListN.{drop}
use mathlib.Core.List.{◌++◌}
use mathlib.Core.Path.{◌≡◌}
use Rattle.capi_states.proofs.stations.put_record.Given as goal

abbrev pub invariant-loop-i : goal.invariant-loop-i
invariant-loop-i l = l.out ≡ bytes_to l.station l.i ++ drop l.i l.initial.out
