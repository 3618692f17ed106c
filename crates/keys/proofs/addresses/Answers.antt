-- `keys::addresses` meets its contract: each arm by what `wanted` says.
-- Assumes nothing.
use mathlib.Core.Path.{sym, ◌∙◌}
use Rattle.keys.proofs.WantedLaws.{addresses_wanted, addresses_unwanted}
use Rattle.keys.proofs.addresses.Goals as goal

pub returns-then-wanted : goal.returns-then-wanted
returns-then-wanted c =
    let k = c.args.key.bytes in
    sym (addresses_wanted k (sym c.wanted.ensures ∙ c.if-wanted.true))

pub returns-else-wanted : goal.returns-else-wanted
returns-else-wanted c =
    let k = c.args.key.bytes in
    sym (addresses_unwanted k (sym c.wanted.ensures ∙ c.if-wanted.false))
