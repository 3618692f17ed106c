-- The receiver behind bytes: what comes of a bit, and of bytes, where a buffer is too short and where both have room.
use Prim.Native.Nat.{ℕ, ◌<◌, ◌≤◌}
use mathlib.Core.Path.{◌≡◌, ap, ◌∙◌}
use mathlib.Core.Bool.{true, false}
use mathlib.Core.List.{List, ◌++◌}
use lib.Dec.{ltb}
use lib.ListN.{length, drop}
use borrow.Author.Tests.{lt-ltb, le-ltb, ltb-false}
use Rattle.frequencies.proofs.AfTests.{or-none}
use Rattle.receiver.specs.declared.Step.{Step}
use Rattle.receiver.specs.declared.Advanced.{Advanced}
use Rattle.saving.specs.Saving.{state_length, buffer_of}
use Rattle.capi_states.specs.Hearing.{told_size, told_of, no_room, bit_refused, stepped, stepped_state, stepped_told}
use Rattle.capi_states.specs.Hearing.{fed, place_after, state_after, told_after}

-- with room in both there is room for what is told
pub told_room : (state told : ℕ) → no_room state told ≡ false → told_size ≤ told
told_room state told e = ltb-false told told_size (or-none (ltb state state_length) (ltb told told_size) e).1

-- and for the state
pub state_room : (state told : ℕ) → no_room state told ≡ false → state_length ≤ state
state_room state told e = ltb-false state state_length (or-none (ltb state state_length) (ltb told told_size) e).0

-- ---- a bit

module _ (state : List ℕ) (bit : ℕ) (told : List ℕ) where
  pub bit_short : no_room (length state) (length told) ≡ true
      → (◌≡◌ {A = ℕ} 8 (bit_refused state bit told)) × (state ≡ stepped_state state bit told)
      × (told ≡ stepped_told state bit told)
  unfolding bit_refused stepped_state stepped_told
  bit_short e = (rw e, rw e, rw e)

  pub bit_refused_lem : no_room (length state) (length told) ≡ false → 1 < bit
      → (◌≡◌ {A = ℕ} 9 (bit_refused state bit told)) × (state ≡ stepped_state state bit told)
      × (told ≡ stepped_told state bit told)
  unfolding bit_refused stepped_state stepped_told
  bit_refused_lem e h = let over = lt-ltb 1 bit h in (rw (e, over), rw (e, over), rw (e, over))

  pub bit_taken : (step : Step) (after said : List ℕ) → no_room (length state) (length told) ≡ false → bit ≤ 1
      → step ≡ stepped state bit → after ≡ buffer_of step.next state
      → said ≡ told_of step.answer 0 ++ drop told_size told
      → (◌≡◌ {A = ℕ} 0 (bit_refused state bit told)) × (after ≡ stepped_state state bit told)
      × (said ≡ stepped_told state bit told)
  unfolding bit_refused stepped_state stepped_told
  bit_taken step after said e h s a t =
      let under = le-ltb 1 bit h in (
        rw (e, under),
        rw (e, under) (a ∙ ap (λ (x : Step). buffer_of x.next state) s),
        rw (e, under) (t ∙ ap (λ (x : Step). told_of x.answer 0 ++ drop told_size told) s),
      )

-- ---- bytes

module _ (state bytes : List ℕ) (byte bit : ℕ) (told : List ℕ) where
  pub feed_short : no_room (length state) (length told) ≡ true
      → (byte ≡ place_after state bytes byte bit told) × (state ≡ state_after state bytes byte bit told)
      × (told ≡ told_after state bytes byte bit told)
  unfolding place_after state_after told_after
  feed_short e = (rw e, rw e, rw e)

  pub feed_done : (came : Advanced) (after said : List ℕ) → no_room (length state) (length told) ≡ false
      → came ≡ fed state bytes byte bit → after ≡ buffer_of came.next state
      → said ≡ told_of came.answer came.bit ++ drop told_size told
      → (came.byte ≡ place_after state bytes byte bit told) × (after ≡ state_after state bytes byte bit told)
      × (said ≡ told_after state bytes byte bit told)
  unfolding place_after state_after told_after
  feed_done came after said e s a t = (
    rw e (ap (λ (x : Advanced). x.byte) s),
    rw e (a ∙ ap (λ (x : Advanced). buffer_of x.next state) s),
    rw e (t ∙ ap (λ (x : Advanced). told_of x.answer x.bit ++ drop told_size told) s),
  )
