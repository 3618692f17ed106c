-- `listening::Listener::hear_file`: a call brings no more than the piece holds.
use Rattle.std.proofs.Common.{arith}
use Rattle.asking.proofs.Calls.{piece_within}
use Rattle.files.proofs.Counting.{counts_within}
use Rattle.listening.proofs.Listener.hear_file.Goals as goal

pub slice_bounds-piece-end : goal.slice_bounds-piece-end
slice_bounds-piece-end g c = omega (arith, piece_within _ 65536 _ _ c.after.ensures c.in-GoOn.is)

pub slice_bounds-hear-end : goal.slice_bounds-hear-end
slice_bounds-hear-end g c =
    let within = piece_within _ 65536 _ _ c.after.ensures c.in-GoOn.is in
    (counts_within c.in-GoOn.length c.read-got.new.buf (omega arith)).1
