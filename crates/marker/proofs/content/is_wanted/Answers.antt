-- `marker::content::is_wanted` meets its promise: the wanted addresses are those below their number.
use Rattle.keys.specs.Wanted.{wanted_address}
use Rattle.marker.proofs.content.is_wanted.Goals as goal

pub returns : goal.returns
unfolding wanted_address
returns c = rw (c.from.ensures, c.addresses.ensures)
