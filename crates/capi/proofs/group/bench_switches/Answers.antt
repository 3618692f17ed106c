-- `bench_switches` is the number of what `switches_of` finds in a group with that word 2.
use Rattle.capi.specs.Groups.{carried_code}
use Rattle.groups.specs.Content.{carried_of}
use Rattle.groups.specs.Group.{word_of}
use Rattle.groups.specs.declared.Group.{Group}
use mathlib.Core.Path.{ap, ◌∙◌}
use Rattle.capi.proofs.group.bench_switches.Goals as goal

pub returns : goal.returns
unfolding word_of
returns c =
    let one = c.all_good.ensures in
    let carried = c.switches_of.ensures ∙ ap (λ (g : Group). carried_of (word_of g 1)) one in
    c.carried_code.ensures ∙ ap carried_code carried
