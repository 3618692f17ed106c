-- What a telling promises settles all: the refusal comes exactly if the buffer is shorter than the text and leaves it
-- as it was, and no second answer would do.
use Prim.Native.Nat.{ℕ, ◌<◌, ◌≤◌}
use Rattle.std.specs.Prelude.{Result}
use mathlib.Core.Path.{◌≡◌, refl, sym, ◌∙◌}
use mathlib.Core.List.{List}
use mathlib.Core.Bool.{Bool, true, false, cond}
use native.Mathlib.Omega.{arith}
use lib.Dec.{ltb}
use lib.ListN.{length}
use borrow.Author.Tests.{lt-ltb, le-ltb, ltb-true}
use Rattle.letters.specs.Letters.{Wrote, Put}
use Rattle.letters.specs.Told.{too_short, told_of, buffer_of, told_number, Tells, TellsWithin}
use Rattle.letters.specs.declared.TooShort.{TooShort}

-- there is such an answer: the definitions meet the promise themselves
pub told_tells : (text out : List ℕ) → Tells text out (told_of text out) (buffer_of text out)
unfolding told_of
told_tells text out = by_test (too_short text out) refl
  where
    by_test : (short : Bool) → too_short text out ≡ short → Tells text out (told_of text out) (buffer_of text out)
    by_test true e = record { answers = refl; numbered = rw e; valued = rw e; leaves = refl }
    by_test false e = record { answers = refl; numbered = rw e; valued = rw e; leaves = refl }

-- 8 exactly if the buffer is shorter than the text
pub eight-if : {text out after : List ℕ} {answer : Result ℕ TooShort}
    → Tells text out answer after → length out < length text
    → told_number answer ≡ 8
unfolding too_short
eight-if {text} {out} tells h = tells.numbered ∙ rw (lt-ltb (length out) (length text) h)

pub eight_only : {text out after : List ℕ} {answer : Result ℕ TooShort}
    → Tells text out answer after → told_number answer ≡ 8
    → length out < length text
unfolding too_short
eight_only {text} {out} tells e = by_test (ltb (length out) (length text)) refl (sym tells.numbered ∙ e)
  where
    by_test : (test : Bool) → ltb (length out) (length text) ≡ test → ◌≡◌ {A = ℕ} (cond test 8 0) 8
        → length out < length text
    by_test true t e = ltb-true (length out) (length text) t
    by_test false t e = absurd (omega arith)

-- a buffer that is no shorter is enough
pub enough : {text out after : List ℕ} {answer : Result ℕ TooShort}
    → Tells text out answer after → length text ≤ length out
    → told_number answer ≡ 0
unfolding too_short
enough {text} {out} tells h = tells.numbered ∙ rw (le-ltb (length out) (length text) h)

-- on a refusal the buffer is as it was
pub eight-same : {text out after : List ℕ} {answer : Result ℕ TooShort}
    → Tells text out answer after → told_number answer ≡ 8
    → after ≡ out
unfolding too_short buffer_of
eight-same {text} {out} tells e =
    tells.leaves ∙ rw (lt-ltb (length out) (length text) (eight_only tells e))

-- ---- no second answer, and no second buffer

pub one_answer : {text out after after' : List ℕ} {answer answer' : Result ℕ TooShort} → Tells text out answer after
    → Tells text out answer' after' → (answer ≡ answer') × (after ≡ after')
one_answer tells tells' = (tells.answers ∙ sym tells'.answers, tells.leaves ∙ sym tells'.leaves)

pub one_within : {room : ℕ} {text out after after' : List ℕ} {answer answer' : Result ℕ TooShort}
    → TellsWithin room text out answer after → TellsWithin room text out answer' after'
    → (answer ≡ answer') × (after ≡ after')
one_within told told' = one_answer told.tells told'.tells

pub one-put : {text out after after' : List ℕ} {at end end' : ℕ} → Put text out at after end
    → Put text out at after' end' → (end ≡ end') × (after ≡ after')
one-put put put' = (put.to ∙ sym put'.to, put.over ∙ sym put'.over)

pub one_wrote : {text out after after' : List ℕ} {at end end' : ℕ} → Wrote out at text after end
    → Wrote out at text after' end' → (end ≡ end') × (after ≡ after')
one_wrote wrote wrote' = (wrote.to ∙ sym wrote'.to, wrote.over ∙ sym wrote'.over)
