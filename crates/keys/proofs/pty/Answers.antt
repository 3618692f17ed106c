-- `keys::pty` meets its contract: the byte is the definition's.
-- Assumes nothing.
use mathlib.Core.Path.{refl}
use Rattle.keys.specs.Fields.{pty_of}
use Rattle.keys.proofs.pty.Goals as goal

pub returns : goal.returns
unfolding pty_of
returns c = refl
