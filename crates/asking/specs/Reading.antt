-- Reading an input, call by call: how much of it is there, and whether to go on. A call that failed is never the
-- input's end, and of an input of which a call failed nothing is there.
use Rattle.std.specs.Prelude.{ℕ, zero, suc, ◌+◌, min, Bool, true, false, ltb, Result, Ok, Err}
use Rattle.std.specs.declared.io.Error.{Error}
use Rattle.asking.specs.declared.reading.Reading.{Reading}
use Rattle.asking.specs.declared.reading.Reading.TheVariants.{GoOn, Ended, Failed}

-- where so many bytes were there, and a call answered `got` for a buffer with so much room in all: it failed, or with 0
-- the input has ended, or there is more
unfoldable pub called_of : ℕ → Result ℕ Error → ℕ → Reading
called_of there (Err error) room = Failed error
called_of there (Ok zero) room = Ended there
called_of there (Ok (suc k)) room = GoOn (min room (there + suc k))

-- an input that has ended or failed stays so
unfoldable pub after_of : Reading → Result ℕ Error → ℕ → Reading
after_of (GoOn there) got room = called_of there got room
after_of (Ended there) got room = Ended there
after_of (Failed error) got room = Failed error

-- how many bytes are there
abbrev pub there_of : Reading → ℕ
there_of (GoOn there) = there
there_of (Ended there) = there
there_of (Failed error) = 0

-- there is room for more, and there may be more
abbrev pub goes_on_of : Reading → ℕ → Bool
goes_on_of (GoOn there) room = ltb there room
goes_on_of (Ended there) room = false
goes_on_of (Failed error) room = false

-- a call failed
abbrev pub failed_of : Reading → Bool
failed_of (GoOn there) = false
failed_of (Ended there) = false
failed_of (Failed error) = true
