-- Laws on frequencies in a list: whether one is among some, and when a frequency is appended.
use Prim.Native.Nat.{ℕ, ◌+◌, ◌≤◌, ◌<◌}
use mathlib.Core.Bool.{Bool, true, false, or-true, ◌||◌}
use mathlib.Core.List.{List, [], ◌∷◌}
use mathlib.Core.Path.{◌≡◌, refl, ap}
use native.Mathlib.Omega.{arith}
use borrow.Author.Tests.{leb-true, leb-false}
use lib.Dec.{eqb}
use lib.ListN.{take, set}
use Rattle.std.specs.List.{list_any}
use Rattle.frequencies.specs.AfList.{is_in, enough, full, in_list, appended_of}
use Rattle.frequencies.specs.declared.AfList.{AfList}
use Rattle.frequencies.proofs.AfTests.{true_by, false_by}

-- a frequency is among some if one of them is the same
pub is_in_any : (k : ℕ) (l : List ℕ) → list_any (λ x. eqb x k) l ≡ is_in k l
unfolding is_in
is_in_any k [] = refl
is_in_any k (x ∷ l) = ap (λ (t : Bool). eqb x k || t) (is_in_any k l)

module _ (list : AfList) (k : ℕ) where
  -- as many held as expected: no change
  pub append_enough : list.expected ≤ list.held → appended_of list k ≡ list
  unfolding appended_of
  append_enough h = simp (true_by (enough list) (λ e. omega (arith, leb-false)))

  -- no slot left: no change
  pub append_full : 25 ≤ list.held → appended_of list k ≡ list
  unfolding appended_of
  append_full h = simp (true_by (full list) (λ e. omega (arith, leb-false)), or-true)

  -- in the list already: no change
  pub append_known : is_in k (take list.held list.khz) ≡ true → appended_of list k ≡ list
  unfolding appended_of
  append_known h =
      let known : in_list k list ≡ true = h in
      simp (known, or-true)

  -- else: appended
  pub append_new :
      list.held < list.expected →
      list.held < 25 →
      is_in k (take list.held list.khz) ≡ false →
      appended_of list k
      ≡ record { khz = set list.khz list.held k; held = list.held + 1; expected = list.expected }
  unfolding appended_of
  append_new more room h =
      let new : in_list k list ≡ false = h in
      simp
      (false_by (enough list) (λ e. omega (arith, leb-true)), false_by (full list) (λ e. omega (arith, leb-true)), new)
