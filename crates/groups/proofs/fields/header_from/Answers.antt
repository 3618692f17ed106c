-- `groups::fields::header_from` meets its promise: the fields are cut from word 2.
use mathlib.Core.Path.{refl}
use Rattle.groups.specs.Content.{header_of}
use Rattle.groups.proofs.fields.header_from.Goals as goal

pub returns : goal.returns
unfolding header_of
returns c = refl
