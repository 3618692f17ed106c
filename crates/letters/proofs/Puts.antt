-- Texts that are put where there may be no room: with room they are written, without it nothing is.
use Prim.Native.Nat.{ℕ, ◌+◌, ◌-◌, ◌<◌, ◌≤◌}
use mathlib.Core.Path.{◌≡◌, refl, sym, ap, ◌∙◌}
use mathlib.Core.List.{List, [], ◌++◌, append_assoc, append-nil}
use mathlib.Core.Bool.{Bool, true, false}
use native.Mathlib.Omega.{arith}
use lib.Dec.{ltb}
use lib.ListN.{length, take, drop, length-drop, take-append-drop}
use lib.Seq.{drop-drop, take_all}
use Rattle.std.proofs.lemmas.List.{drop_all}
use borrow.Rule.Slice.PartMut.{put_mid}
use borrow.Author.Tests.{le-leb, lt-leb, ltb-true, ltb-false}
use Rattle.std.specs.Prelude.{Result, Ok, Err}
use Rattle.letters.specs.Letters.{written, Wrote, has_room, put_of, end_of, Put}
use Rattle.letters.specs.Told.{too_short, told_of, buffer_of, written_of, Tells}
use Rattle.letters.specs.declared.TooShort.{TooShort}

module _ {text out after : List ℕ} {at end : ℕ} where
  pub wrote_put : at + length text ≤ length out → Wrote out at text after end → Put text out at after end
  unfolding has_room put_of end_of
  wrote_put h wrote =
      let e = le-leb (at + length text) (length out) h in
      record { over = rw e wrote.over; to = rw e wrote.to }

  pub put_wrote : at + length text ≤ length out → Put text out at after end → Wrote out at text after end
  unfolding has_room put_of end_of
  put_wrote h put =
      let e = le-leb (at + length text) (length out) h in
      record { over = put.over ∙ rw e; to = put.to ∙ rw e }

-- no room
pub put-none : (text out : List ℕ) (at : ℕ) → length out < at + length text → Put text out at out at
unfolding has_room put_of end_of
put-none text out at h =
    let e = lt-leb (at + length text) (length out) h in
    record { over = rw e; to = rw e }

-- with what stands before a text and behind it
wrote_over : (text out : List ℕ) (at : ℕ) → at + length text ≤ length out
    → Put text out at (take at out ++ (text ++ drop (at + length text) out)) (at + length text)
unfolding written
wrote_over text out at h =
    wrote_put h record { over = sym (append_assoc (take at out) text (drop (at + length text) out)); to = refl }

-- what is told to the buffer from byte `at` on is put there
pub tells_put : {text out rest after : List ℕ} {at : ℕ} {answer : Result ℕ TooShort} → at ≤ length out
    → rest ≡ drop at out → Tells text rest answer after
    → Put text out at (take at out ++ after) (at + written_of answer)
unfolding too_short told_of buffer_of
tells_put {text} {out} {rest} {after} {at} {answer} h e tells =
    by_test (ltb (length rest) (length text)) refl
  where
    long : length rest ≡ length out - at
    long = ap length e ∙ length-drop at out

    by_test : (short : Bool) → ltb (length rest) (length text) ≡ short
        → Put text out at (take at out ++ after) (at + written_of answer)
    by_test true t =
        let refused : answer ≡ Err (record {}) = tells.answers ∙ rw t in
        let none : written_of answer ≡ 0 = ap written_of refused in
        let same : after ≡ drop at out = tells.leaves ∙ rw t e in
        let more = ltb-true (length rest) (length text) t in
        let stays : at + written_of answer ≡ at = omega arith in
        rw (same, take-append-drop at out, stays) (put-none text out at (omega (arith, long)))
    by_test false t =
        let told : answer ≡ Ok (length text) = tells.answers ∙ rw t in
        let count : written_of answer ≡ length text = ap written_of told in
        let less = ltb-false (length rest) (length text) t in
        let over : after ≡ text ++ drop (at + length text) out =
        tells.leaves ∙ rw t (ap (λ (l : List ℕ). text ++ drop (length text) l) e
        ∙ ap (λ (l : List ℕ). text ++ l) (drop-drop (length text) at out)) in
        rw (over, count) (wrote_over text out at (omega (arith, long)))

-- what was written over the buffer from byte `at` on
pub part_end : (out after : List ℕ) (at : ℕ) → put_mid at (length out - at) out after ≡ take at out ++ after
part_end out after at =
    let none : drop (length out - at) (drop at out) ≡ [] =
    drop_all (length out - at) (drop at out) (omega (arith, length-drop at out)) in
    rw (none, append-nil after)

-- the buffer from byte `at` on
pub part_rest : (out : List ℕ) (at : ℕ) → take (length out - at) (drop at out) ≡ drop at out
part_rest out at = take_all (length out - at) (drop at out) (omega (arith, length-drop at out))
