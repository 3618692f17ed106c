-- `receiver::feeding::taken_in` meets its promise: by whether it hunts.
use mathlib.Core.Path.{sym, ◌∙◌}
use Rattle.receiver.proofs.Quiet.{taken-hunting, taken_inside}
use Rattle.receiver.proofs.Same.{same-hunting}
use Rattle.receiver.proofs.feeding.taken_in.Goals as goal

pub returns-then-eq : goal.returns-then-eq
returns-then-eq c =
    c.hunting.ensures
    ∙ sym (taken-hunting c.args.receiver _ _ (sym (same-hunting c.args.receiver.place) ∙ sym c.eq.ensures ∙ c.if-eq.true))

pub returns : goal.returns
returns c =
    sym (taken_inside c.args.receiver _ _ (sym (same-hunting c.args.receiver.place) ∙ sym c.eq.ensures ∙ c.if-eq.false))
