-- `keys::text_length` meets its contract: each arm by what `wanted` says.
-- Assumes nothing.
use mathlib.Core.Path.{sym, ◌∙◌}
use Rattle.keys.proofs.WantedLaws.{length_wanted, length_unwanted}
use Rattle.keys.proofs.text_length.Goals as goal

pub returns-then-wanted : goal.returns-then-wanted
returns-then-wanted c =
    let k = c.args.key.bytes in
    sym (length_wanted k (sym c.wanted.ensures ∙ c.if-wanted.true))

pub returns-else-wanted : goal.returns-else-wanted
returns-else-wanted c =
    let k = c.args.key.bytes in
    sym (length_unwanted k (sym c.wanted.ensures ∙ c.if-wanted.false))
