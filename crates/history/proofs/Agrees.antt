-- The receiver started fresh says, at every bit, what the definition over all bits says. Any numbers may come: what is
-- no bit is refused by both. A step keeps the relation between state and history, so it holds after any list.
use Prim.Native.Nat.{ℕ, ◌<◌, ◌≤◌}
use mathlib.Core.Path.{◌≡◌, refl, ap}
use mathlib.Core.List.{List, [], ◌∷◌}
use mathlib.Core.Logic.{⊎_elim}
use native.Mathlib.Omega.{arith}
use borrow.Author.Tests.{lt-ltb, le-ltb}
use Rattle.bits.proofs.Order.{lt-or-le}
use Rattle.receiver.specs.declared.Receiver.{Receiver}
use Rattle.receiver.specs.Answers.{group_of}
use Rattle.receiver.specs.Machine.{fresh_of, step_of, fed_of}
use Rattle.history.specs.Locked.{place_at, second_before}
use Rattle.history.specs.Heard.{Phase, hunting, locked, heard_in, phase_after, heard}
use Rattle.history.proofs.Places.{place-locked}
use Rattle.history.proofs.Relation.{Holds, Agrees}
use Rattle.history.proofs.Locking.{hunt_agrees}
use Rattle.history.proofs.Following.{fresh_hunts, follow_agrees}

-- a number that is no bit
refused_agrees : (r : Receiver) (phase : Phase) (bit : ℕ) → Holds r phase → 1 < bit
    → Agrees (step_of r bit) (heard_in phase bit)
unfolding step_of heard_in
refused_agrees r phase bit holds h = rw (lt-ltb 1 bit h) (record { holds = holds; answer = refl })

bit_agrees : (r : Receiver) (phase : Phase) (bit : ℕ) → Holds r phase → bit ≤ 1
    → Agrees (step_of r bit) (heard_in phase bit)
unfolding step_of heard_in
bit_agrees r (hunting bits) bit holds h =
    rw (le-ltb 1 bit h, holds.is) (hunt_agrees bits bit holds.all (omega arith))
bit_agrees r (locked kind bits) bit holds h =
    rw (le-ltb 1 bit h, holds.is, place-locked (place_at kind holds.m) (second_before bits holds.m))
    (follow_agrees kind bits bit holds.m holds.c holds.hand holds.fits (omega arith))

pub step_agrees : (r : Receiver) (phase : Phase) (bit : ℕ) → Holds r phase → Agrees (step_of r bit) (heard_in phase bit)
step_agrees r phase bit holds =
    ⊎_elim (refused_agrees r phase bit holds) (bit_agrees r phase bit holds) (lt-or-le 1 bit)

pub fed-holds : (r : Receiver) (phase : Phase) (bits : List ℕ) → Holds r phase
    → Holds (fed_of r bits) (phase_after phase bits)
unfolding fed_of phase_after
fed-holds r phase [] holds = holds
fed-holds r phase (bit ∷ bits) holds =
    fed-holds (step_of r bit).next (heard_in phase bit).phase bits (step_agrees r phase bit holds).holds

-- for every list of numbers, and at every number after it
pub receiver_agrees : (bits : List ℕ) (bit : ℕ)
    → ((step_of (fed_of fresh_of bits) bit).answer ≡ (heard bits bit).answer)
    × (group_of (step_of (fed_of fresh_of bits) bit).answer ≡ group_of (heard bits bit).answer)
unfolding heard
receiver_agrees bits bit =
    let agrees = step_agrees (fed_of fresh_of bits) (phase_after (hunting []) bits) bit
    (fed-holds fresh_of (hunting []) bits fresh_hunts) in (agrees.answer, ap group_of agrees.answer)
