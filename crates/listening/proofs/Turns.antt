-- A turn of `hear` hears on from the place where it stands, and moves that place.
use Rattle.recording.proofs.Advances.{hear_first, hear_next, hear_last}

pub ruleset turns = (hear_first, hear_next, hear_last)
