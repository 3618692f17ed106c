-- Handing a text over: it is refused exactly if the buffer is shorter, and a text at the front of our own buffer is
-- what stands there up to its end.
use Prim.Native.Nat.{ℕ, ◌+◌, ◌<◌, ◌≤◌}
use Rattle.std.specs.Prelude.{Result, Ok, Err}
use mathlib.Core.Path.{◌≡◌, refl, sym, ap, ◌∙◌}
use mathlib.Core.List.{List, ◌++◌}
use mathlib.Core.Bool.{Bool, true, false, cond}
use native.Mathlib.Omega.{arith}
use lib.Dec.{ltb}
use lib.ListN.{length, take, drop}
use lib.Seq.{take_at}
use borrow.Author.Tests.{lt-ltb, le-ltb, ltb-false}
use Rattle.letters.specs.Letters.{written, Wrote}
use Rattle.letters.specs.Told.{too_short, told_of, written_of, buffer_of, Tells, TellsWithin}
use Rattle.letters.specs.declared.TooShort.{TooShort}
use Rattle.letters.proofs.Buffers.{length_written}
use Rattle.letters.proofs.Exactly.{enough}

module _ (text out : List ℕ) where
  pub tells_short : length out < length text → Tells text out (Err (record {})) out
  unfolding too_short told_of buffer_of
  tells_short h =
      let e = lt-ltb (length out) (length text) h in
      record { answers = rw e; numbered = rw e; valued = rw e; leaves = rw e }

  -- a text at the front
  front-written : written out 0 text ≡ text ++ drop (length text) out
  unfolding written
  front-written = let e : 0 + length text ≡ length text = omega arith in rw e

  pub tells_written : length text ≤ length out
      → Tells text out (Ok (length text)) (text ++ drop (length text) out)
  unfolding too_short told_of buffer_of
  tells_written h =
      let e = le-ltb (length out) (length text) h in
      record { answers = rw e; numbered = rw e; valued = rw e; leaves = rw e }

  pub front : {after : List ℕ} {end : ℕ} → Wrote out 0 text after end → take end after ≡ text
  front {after} {end} wrote =
      let e : end ≡ length text = wrote.to ∙ omega arith in
      rw (wrote.over ∙ front-written, e) (take_at text (drop (length text) out) (length text) refl)

  -- so many bytes of the buffer are the text
  pub count_front : {after : List ℕ} {end : ℕ} → Wrote out 0 text after end → end ≡ length (take end after)
  count_front {after} {end} wrote = rw (front wrote) (wrote.to ∙ omega arith)

-- what was written at the front of our own buffer was handed over
pub tells_front : {own text same after out last : List ℕ} {end : ℕ} {answer : Result ℕ TooShort}
    → Wrote own 0 text after end
    → text ≡ same → Tells (take end after) out answer last → Tells same out answer last
tells_front {own} {text} wrote e tells = rw (front text own wrote, e) at tells

-- a text was handed over that is no longer than the room: a buffer with that room is enough
pub tells_short-enough : {text out last : List ℕ} {answer : Result ℕ TooShort} (room : ℕ) → length text ≤ room
    → Tells text out answer last → TellsWithin room text out answer last
tells_short-enough room h tells = record { tells = tells; suffices = λ r. enough tells (omega arith) }

-- the same of what was written at the front of our own buffer
pub tells_within : {own text same after out last : List ℕ} {end : ℕ} {answer : Result ℕ TooShort} (room : ℕ)
    → Wrote own 0 text after end → text ≡ same → end ≤ room → Tells (take end after) out answer last
    → TellsWithin room same out answer last
tells_within {own} {text} {same} {after} {out} {last} {end} {answer} room wrote e h tells =
    let long : length same ≤ room = rw (← e) (omega (arith, wrote.to)) in
    tells_short-enough room long (tells_front wrote e tells)

-- with that room the text stands at the front of the buffer, so many characters of it
pub within_wrote : {text out after : List ℕ} {answer : Result ℕ TooShort} (room : ℕ)
    → TellsWithin room text out answer after
    → room ≤ length out → Wrote out 0 text after (written_of answer) × (written_of answer ≤ length after)
unfolding too_short told_of buffer_of
within_wrote {text} {out} {after} {answer} room told h =
    by_test (ltb (length out) (length text)) refl (sym told.tells.numbered ∙ told.suffices h)
  where
    by_test : (short : Bool) → ltb (length out) (length text) ≡ short → ◌≡◌ {A = ℕ} (cond short 8 0) 0
        → Wrote out 0 text after (written_of answer) × (written_of answer ≤ length after)
    by_test true e n = absurd (omega arith)
    by_test false e n =
        let answered : answer ≡ Ok (length text) = told.tells.answers ∙ rw e in
        let count : written_of answer ≡ length text = ap written_of answered in
        let short = ltb-false (length out) (length text) e in
        let over : after ≡ written out 0 text = told.tells.leaves ∙ rw e (sym (front-written text out)) in
        let long : length after ≡ length out = ap length over ∙ length_written out 0 text (omega arith) in
        (record { over = over; to = omega arith }, omega arith)
