-- What a group carries, by its type and version together: word 2 / 2048 is 0 for 0A, 1 for 0B, 4 for 2A, 5 for 2B, 8
-- for 4A.
use Prim.Native.Nat.{ℕ, ◌/◌, ◌^◌}
use mathlib.Core.Path.{◌≡◌}
use mathlib.Core.Bool.{cond}
use mathlib.Core.Logic.{◌⊎◌, inl, inr, ⊎_elim}
use native.Mathlib.Decide.{ℕ_discrete}
use native.Mathlib.Omega.{arith}
use lib.Dec.{eqb}
use borrow.Author.Tests.{eq-eqb, ne_eqb}
use Rattle.bits.proofs.Order.{lt-or-le}
use Rattle.groups.specs.Header.{type_of, version_of}
use Rattle.groups.specs.Content.{switches_of, name_address, text_address, text_flag, content_of}
use Rattle.groups.specs.declared.fields.Content.TheVariants.{Name0A, Name0B, Text2A, Text2B, Clock4A, Other}

-- the version is 0 or 1
version_is : (w2 : ℕ) → (version_of w2 ≡ 0) ⊎ (version_of w2 ≡ 1)
version_is w2 = ⊎_elim (λ l. inl (omega arith)) (λ l. inr (omega arith)) (lt-or-le (version_of w2) 1)

module _ (w2 w3 w4 : ℕ) where
  pub content_0A : w2 / 2 ^ 11 ≡ 0 → content_of w2 w3 w4 ≡ Name0A (switches_of w2) (name_address w2) w3 w4
  unfolding content_of
  content_0A e = let t : type_of w2 ≡ 0 = omega arith in let v : version_of w2 ≡ 0 = omega arith in rw (t, v)

  pub content_0B : w2 / 2 ^ 11 ≡ 1 → content_of w2 w3 w4 ≡ Name0B (switches_of w2) (name_address w2) w4
  unfolding content_of
  content_0B e = let t : type_of w2 ≡ 0 = omega arith in let v : version_of w2 ≡ 1 = omega arith in rw (t, v)

  pub content_2A : w2 / 2 ^ 11 ≡ 4 → content_of w2 w3 w4 ≡ Text2A (text_flag w2) (text_address w2) w3 w4
  unfolding content_of
  content_2A e = let t : type_of w2 ≡ 2 = omega arith in let v : version_of w2 ≡ 0 = omega arith in rw (t, v)

  pub content_2B : w2 / 2 ^ 11 ≡ 5 → content_of w2 w3 w4 ≡ Text2B (text_flag w2) (text_address w2) w4
  unfolding content_of
  content_2B e = let t : type_of w2 ≡ 2 = omega arith in let v : version_of w2 ≡ 1 = omega arith in rw (t, v)

  pub content_4A : w2 / 2 ^ 11 ≡ 8 → content_of w2 w3 w4 ≡ Clock4A
  unfolding content_of
  content_4A e = let t : type_of w2 ≡ 4 = omega arith in let v : version_of w2 ≡ 0 = omega arith in rw (t, v)

  pub content_other : (w2 / 2 ^ 11 ≡ 0 → ⊥) → (w2 / 2 ^ 11 ≡ 1 → ⊥) → (w2 / 2 ^ 11 ≡ 4 → ⊥) → (w2 / 2 ^ 11 ≡ 5 → ⊥)
      → (w2 / 2 ^ 11 ≡ 8 → ⊥) → content_of w2 w3 w4 ≡ Other
  unfolding content_of
  content_other a b c d e =
      rw (
        ne_eqb (type_of w2) 0 (λ t. ⊎_elim (λ v. a (omega arith)) (λ v. b (omega arith)) (version_is w2)),
        ne_eqb (type_of w2) 2 (λ t. ⊎_elim (λ v. c (omega arith)) (λ v. d (omega arith)) (version_is w2)),
      )
      (fourth (ℕ_discrete (type_of w2) 4))
    where
      fourth : Dec (type_of w2 ≡ 4) → cond (eqb (type_of w2) 4) (cond (eqb (version_of w2) 0) Clock4A Other) Other ≡ Other
      fourth (yes t) = rw (eq-eqb (type_of w2) 4 t, ne_eqb (version_of w2) 0 (λ v. e (omega arith)))
      fourth (no t) = rw (ne_eqb (type_of w2) 4 t)
