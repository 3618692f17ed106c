-- Reading on: what is there stays within the room, and with each call less is left to read.
use Rattle.std.specs.Prelude.{ℕ, zero, suc, ◌-◌, ◌<◌, ◌≤◌, ◌≡◌, true, Result, Ok, Err}
use Rattle.std.specs.declared.io.Error.{Error}
use mathlib.Core.Path.{sym, ap, ◌∙◌}
use mathlib.Core.Bool.{true≢false}
use native.Mathlib.Omega.{arith}
use borrow.Author.Tests.{ltb-true}
use Rattle.asking.specs.declared.reading.Reading.{Reading}
use Rattle.asking.specs.declared.reading.Reading.TheVariants.{GoOn, Ended, Failed}
use Rattle.asking.specs.Reading.{called_of, after_of, there_of, goes_on_of}

-- what is there stays within the room
after_within : (r : Reading) (got : Result ℕ Error) (room : ℕ) → there_of r ≤ room
    → there_of (after_of r got room) ≤ room
unfolding called_of after_of
after_within (GoOn there) (Ok zero) room h = h
after_within (GoOn there) (Ok (suc n)) room h = omega arith
after_within (GoOn there) (Err error) room h = omega arith
after_within (Ended there) got room h = h
after_within (Failed error) got room h = h

-- a reading that goes on has room
goes_within : (r : Reading) (room : ℕ) → goes_on_of r room ≡ true → there_of r < room
goes_within (GoOn there) room e = ltb-true there room e
goes_within (Ended there) room e = absurd (true≢false (sym e))
goes_within (Failed error) room e = absurd (true≢false (sym e))

-- how much is left to read: it falls with each call
abbrev pub left_of : Reading → ℕ → ℕ
left_of (GoOn there) room = suc (room - there)
left_of (Ended there) room = 0
left_of (Failed error) room = 0

after_less : (r : Reading) (got : Result ℕ Error) (room : ℕ) → goes_on_of r room ≡ true
    → left_of (after_of r got room) room < left_of r room
unfolding called_of after_of
after_less (GoOn there) (Ok zero) room e = omega arith
after_less (GoOn there) (Ok (suc n)) room e = let h = ltb-true there room e in omega arith
after_less (GoOn there) (Err error) room e = omega arith
after_less (Ended there) got room e = absurd (true≢false (sym e))
after_less (Failed error) got room e = absurd (true≢false (sym e))

-- the same of a turn, whose buffer keeps its length
module _ (r s : Reading) (got : Result ℕ Error) (room room' : ℕ) (e : s ≡ after_of r got room') (same : room' ≡ room) where
  pub turn_within : there_of r ≤ room → there_of s ≤ room'
  turn_within h = rw (e, same) (after_within r got room h)

  pub turn_less : goes_on_of r room ≡ true → left_of s room' < left_of r room
  turn_less goes = rw (e, same) (after_less r got room goes)

  -- with no room there is no turn
  pub turn_fresh : goes_on_of r room ≡ true → room' ≡ 0 → s ≡ GoOn 0
  turn_fresh goes none = let h = goes_within r room goes in absurd (omega arith)

-- a piece that a call has brought
pub piece_within : (got : Result ℕ Error) (room m : ℕ) (s : Reading) → s ≡ after_of (GoOn 0) got room → s ≡ GoOn m
    → m ≤ room
piece_within got room m s e f =
    let within = after_within (GoOn 0) got room (omega arith) in
    let there : there_of (after_of (GoOn 0) got room) ≡ m = ap there_of (sym e ∙ f) in
    omega arith

-- a turn of reading
pub ruleset turns = (turn_within, turn_less, turn_fresh)
