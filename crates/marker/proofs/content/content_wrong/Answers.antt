-- `marker::content::content_wrong` meets its promise: case by case.
use mathlib.Core.Logic.{⊎_elim}
use Rattle.marker.specs.Tests.{content_wrong}
use Rattle.marker.proofs.content.content_wrong.Goals as goal

pub returns-in-Name0A : goal.returns-in-Name0A
unfolding content_wrong
returns-in-Name0A c =
    ⊎_elim (λ e. rw e.2 c.name_wrong.ensures) (λ e. rw e.1 c.name_wrong.ensures) c.in-Name0A.is

pub returns-in-Text2A : goal.returns-in-Text2A
unfolding content_wrong
returns-in-Text2A c = rw c.in-Text2A.is c.text_wrong.ensures

pub returns-in-Text2B : goal.returns-in-Text2B
unfolding content_wrong
returns-in-Text2B c = rw c.in-Text2B.is

pub returns-in-Clock4A : goal.returns-in-Clock4A
unfolding content_wrong
returns-in-Clock4A c = ⊎_elim (λ e. rw e) (λ e. rw e) c.in-Clock4A.is
