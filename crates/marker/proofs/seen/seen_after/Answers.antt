-- `marker::seen::seen_after` meets its promise: case by case.
use Rattle.std.proofs.Common.{sym}
use mathlib.Core.Bool.{or-false}
use mathlib.Core.Logic.{⊎_elim}
use Rattle.marker.specs.Tests.{brings}
use Rattle.marker.proofs.seen.seen_after.Goals as goal

pub returns-in-Name0A : goal.returns-in-Name0A
unfolding brings
returns-in-Name0A c =
    let added = rw c.from-in-Name0A.ensures at c.with_address-in-Name0A.ensures in
    ⊎_elim (λ e. rw e.3 added) (λ e. rw e.2 added) c.in-Name0A.is

pub returns-in-Text2A : goal.returns-in-Text2A
unfolding brings
returns-in-Text2A c = rw c.in-Text2A.is (rw c.from.ensures at c.with_address.ensures)

pub returns-in-Text2B : goal.returns-in-Text2B
unfolding brings
returns-in-Text2B c =
    λ a l. ⊎_elim (λ e. rw e.3 (sym (or-false _)))
    (⊎_elim (λ e. rw e (sym (or-false _))) (λ e. rw e (sym (or-false _)))) c.in-Text2B.is
