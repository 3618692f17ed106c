-- The machine's state against what has come. It is an equation with a state that is spelled out from the bits, so that
-- a step begins by putting that state in; only the words are left open where no group is in hand.
use Prim.Native.Nat.{ℕ, ◌+◌, ◌*◌, ◌-◌, ◌%◌, ◌^◌, ◌<◌, ◌≤◌, min}
use mathlib.Core.Path.{◌≡◌}
use mathlib.Core.List.{List}
use lib.Dec.{leb}
use lib.ListN.{length}
use Rattle.bits.specs.Spell.{spell, Bits, listed}
use Rattle.blocks.specs.declared.Kind.{Kind}
use Rattle.groups.specs.declared.Group.{Group}
use Rattle.receiver.specs.declared.Receiver.{Receiver}
use Rattle.receiver.specs.declared.Step.{Step}
use Rattle.receiver.specs.Machine.{hunting_of}
use Rattle.history.specs.Locked.{place_at, second_before, judged_in, bads_from}
use Rattle.history.specs.Heard.{Phase, hunting, locked, Heard}
use Rattle.history.proofs.Growing.{spelled}
use Rattle.history.proofs.Places.{place_for}
use Rattle.history.proofs.Counts.{filled_from}

-- hunting: the window is the last 52 bits
pub record Hunts (r : Receiver) (bits : List ℕ) : Type 0 where
  pub is : r ≡ hunting_of (spelled bits % 2 ^ 52) (min (length bits) 52)
  pub all : Bits (listed bits)

-- the blocks of the run so far, m blocks having come
abbrev pub run_at : ℕ → ℕ
run_at m = (m - 2) % 50

-- how many of them were bad
abbrev pub bad_at : Kind → List ℕ → ℕ → ℕ
bad_at kind bits m = bads_from (judged_in kind bits) (m - run_at m) (run_at m)

-- locked: m blocks and c bits have come since the pair began
abbrev pub state_at : Kind → List ℕ → ℕ → ℕ → Group → Receiver
state_at kind bits m c hand =
    record {
      window = spell (listed bits) (26 * m) c;
      count = c;
      place = place_for (place_at kind m) (second_before bits m);
      held = leb (place_at kind m) m;
      hand = hand;
      run = run_at m;
      bad = bad_at kind bits m;
    }

pub record Fits (kind : Kind) (bits : List ℕ) (m c : ℕ) (hand : Group) : Type 0 where
  pub long : length bits ≡ 26 * m + c
  pub short : c < 26
  pub pair : 2 ≤ m
  pub all : Bits (listed bits)
  pub in_hand_lem : place_at kind m ≤ m → hand ≡ filled_from (judged_in kind bits) (m - place_at kind m) (place_at kind m)

pub record Follows (r : Receiver) (kind : Kind) (bits : List ℕ) : Type 0 where
  pub m : ℕ
  pub c : ℕ
  pub hand : Group
  pub is : r ≡ state_at kind bits m c hand
  pub fits : Fits kind bits m c hand

abbrev pub Holds : Receiver → Phase → Type 0
Holds r (hunting bits) = Hunts r bits
Holds r (locked kind bits) = Follows r kind bits

-- a step says what is heard, and leaves a state that holds
pub record Agrees (step : Step) (heard : Heard) : Type 0 where
  pub holds : Holds step.next heard.phase
  pub answer : step.answer ≡ heard.answer
