-- Laws of a lock and of a block's end: the tables of the rules by one test, whether the place is the fourth.
use Prim.Native.Nat.{ℕ}
use mathlib.Core.Path.{◌≡◌, refl}
use mathlib.Core.Bool.{Bool, not, ◌&&◌, ◌||◌}
use lib.Dec.{eqb}
use Rattle.blocks.specs.declared.Kind.{Kind}
use Rattle.blocks.specs.declared.Kind.TheVariants.{A, B, C, CPrime, D}
use Rattle.groups.specs.declared.Group.{Group}
use Rattle.receiver.specs.declared.Place.{Place}
use Rattle.receiver.specs.declared.Place.TheVariants.{Hunting, First, Second, Fourth}
use Rattle.receiver.specs.declared.Place.TheVariants.{ThirdC, ThirdCPrime, ThirdBad}
use Rattle.receiver.specs.Machine.{begin_of, locked_of, index_of, completes_of, held_of, hand_of, given_of}

-- the state after a lock, from its parts
pub locked_parts : (kind : Kind) (older newer : ℕ)
    → begin_of (locked_of kind 0 newer).place (locked_of kind 0 0).held (locked_of kind older newer).hand 0 0
    ≡ locked_of kind older newer
locked_parts A older newer = refl
locked_parts B older newer = refl
locked_parts C older newer = refl
locked_parts CPrime older newer = refl
locked_parts D older newer = refl

pub completes_fourth : (place : Place) (held : Bool) → (eqb (index_of place) 3 && held) ≡ completes_of place held
completes_fourth Hunting held = refl
completes_fourth First held = refl
completes_fourth Second held = refl
completes_fourth ThirdC held = refl
completes_fourth ThirdCPrime held = refl
completes_fourth ThirdBad held = refl
completes_fourth Fourth held = refl

pub held_fourth : (place : Place) (held : Bool) → (eqb (index_of place) 3 || held) ≡ held_of place held
held_fourth Hunting held = refl
held_fourth First held = refl
held_fourth Second held = refl
held_fourth ThirdC held = refl
held_fourth ThirdCPrime held = refl
held_fourth ThirdBad held = refl
held_fourth Fourth held = refl

pub hand_fourth : (place : Place) (hand : Group) → given_of (not (eqb (index_of place) 3)) hand ≡ hand_of place hand
hand_fourth Hunting hand = refl
hand_fourth First hand = refl
hand_fourth Second hand = refl
hand_fourth ThirdC hand = refl
hand_fourth ThirdCPrime hand = refl
hand_fourth ThirdBad hand = refl
hand_fourth Fourth hand = refl
