-- The answer to an input: with nothing at all it is that of exercise 0 and no submission.
use Prim.Native.Nat.{ℕ, ◌-◌}
use mathlib.Core.Path.{◌≡◌, refl}
use mathlib.Core.List.{List, [], ◌∷◌}
use native.Mathlib.Omega.{arith}
use lib.ListN.{length, take, drop, length-drop}
use lib.Seq.{take_all}
use Rattle.marker.specs.Mark.{mark_of}
use Rattle.answers.specs.Line.{with_verdict, marked_of}

-- what stands behind the first byte
pub behind-first : (l : List ℕ) → take (length l - 1) (drop 1 l) ≡ drop 1 l
behind-first l = take_all (length l - 1) (drop 1 l) (omega (arith, length-drop 1 l))

pub nothing-marked : (sheet input : List ℕ) → length input ≡ 0
    → with_verdict 0 (mark_of sheet 0 input) ≡ marked_of sheet input
unfolding marked_of
nothing-marked sheet [] e = refl
nothing-marked sheet (x ∷ xs) e = absurd (omega arith)
