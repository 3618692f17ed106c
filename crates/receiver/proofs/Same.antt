-- What the derived equality says of hunting; and an answer that is another than nothing.
use mathlib.Core.Path.{◌≡◌, refl}
use mathlib.Core.Bool.{false}
use denote.Enum.Bare.{sameb}
use Rattle.receiver.specs.declared.Place.{Place}
use Rattle.receiver.specs.declared.Place.TheVariants.{Hunting, First, Second, ThirdC, ThirdCPrime, ThirdBad, Fourth}
use Rattle.receiver.specs.declared.Answer.{Answer}
use Rattle.receiver.specs.declared.Answer.TheVariants as answer
use Rattle.receiver.specs.contracts.Place as place
use Rattle.receiver.specs.Machine.{is_hunting_of}
use Rattle.receiver.specs.Feeding.{is_nothing_of}

pub same-hunting : (p : Place) → sameb place.the_type p Hunting ≡ is_hunting_of p
same-hunting Hunting = refl
same-hunting First = refl
same-hunting Second = refl
same-hunting ThirdC = refl
same-hunting ThirdCPrime = refl
same-hunting ThirdBad = refl
same-hunting Fourth = refl

pub other-nothing : (a : Answer) → (a ≡ answer.Nothing → ⊥) → is_nothing_of a ≡ false
other-nothing answer.Nothing other = absurd (other refl)
other-nothing answer.Locked other = refl
other-nothing (answer.Group group) other = refl
other-nothing answer.Lost other = refl
other-nothing (answer.GroupAndLost group) other = refl
other-nothing answer.Refused other = refl
