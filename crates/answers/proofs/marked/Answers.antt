-- `answers::marked` meets its promise: by whether there is anything at all.
use native.Mathlib.Omega.{arith}
use mathlib.Core.Path.{◌∙◌}
use Rattle.answers.specs.Line.{marked_of}
use Rattle.answers.proofs.Lines.{nothing-marked, behind-first}
use Rattle.answers.proofs.marked.Goals as goal

pub returns-in-empty : goal.returns-in-empty
returns-in-empty c =
    rw c.mark.ensures.0 at c.with_verdict.ensures
    ∙ nothing-marked c.args.sheet.now c.args.input.now (omega arith)

pub returns-in-len1-up : goal.returns-in-len1-up
unfolding marked_of
returns-in-len1-up c =
    let behind = behind-first c.args.input.now in
    rw (c.mark-in-len1-up.ensures.0, c.from.ensures, behind) at c.with_verdict-in-len1-up.ensures
