-- Passed exactly if the rules hold: the marker's law, said by the answer's number.
use Prim.Native.Nat.{ℕ}
use mathlib.Core.Path.{◌≡◌, refl, ap}
use mathlib.Core.List.{List}
use native.Mathlib.Omega.{arith}
use Rattle.marker.specs.declared.Verdict.{Verdict}
use Rattle.marker.specs.declared.Verdict.TheVariants.{Passed, NoKey, BadKey, BadLength, BadBlock, BadHeader}
use Rattle.marker.specs.declared.Verdict.TheVariants.{BadContent, Missing}
use Rattle.marker.specs.Verdict.{number_of}
use Rattle.marker.specs.Mark.{mark_of}
use Rattle.marker.proofs.TableLaws.{passed_rules, rules_passed}
use Rattle.demands.specs.Passing.{IsPassed, PassedExactly}

-- no other answer has the number 0
zero-passed : (v : Verdict) → number_of v ≡ 0 → v ≡ Passed
zero-passed Passed e = refl
zero-passed NoKey e = absurd (omega arith)
zero-passed BadKey e = absurd (omega arith)
zero-passed BadLength e = absurd (omega arith)
zero-passed (BadBlock block) e = absurd (omega arith)
zero-passed (BadHeader group) e = absurd (omega arith)
zero-passed (BadContent group) e = absurd (omega arith)
zero-passed (Missing address) e = absurd (omega arith)

module _ (sheet : List ℕ) (n : ℕ) (s : List ℕ) where
  pub is_passed : mark_of sheet n s ≡ Passed → IsPassed sheet n s
  is_passed e = ap number_of e

pub passed_exactly : PassedExactly
passed_exactly sheet n s = (
  λ e. passed_rules sheet n s (zero-passed (mark_of sheet n s) e),
  λ rules. is_passed sheet n s (rules_passed sheet n s rules),
)
