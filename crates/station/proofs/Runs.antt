-- The groups since a number last changed, with one group more: where its number is the last one's they go on, otherwise
-- they begin anew.
use Prim.Native.Nat.{ℕ}
use mathlib.Core.Path.{◌≡◌, refl, sym, ap, ◌∙◌}
use mathlib.Core.Bool.{Bool, true, false}
use mathlib.Core.List.{List, [], ◌∷◌, ◌++◌}
use mathlib.Core.Logic.{◌⊎◌, inl, inr}
use lib.Dec.{eqb}
use borrow.Author.Tests.{eq-eqb, ne_eqb, eqb-true}
use Rattle.frequencies.proofs.AfTests.{false_by, and_left, and_right}
use Rattle.groups.specs.declared.Group.{Group}
use Rattle.station.specs.History.{each, since_change}
use Rattle.station.proofs.Lists.{each_more}

-- a list of groups is empty or has a last one
pub record Ended (gs : List Group) : Type 0 where
  pub before : List Group
  pub last : Group
  pub is : gs ≡ before ++ last ∷ []

pub ended : (gs : List Group) → (gs ≡ []) ⊎ Ended gs
ended [] = inl refl
ended (g ∷ gs) = inr (from (ended gs))
  where
    from : (gs ≡ []) ⊎ Ended gs → Ended (g ∷ gs)
    from (inl e) = record { before = []; last = g; is = ap (λ (l : List Group). g ∷ l) e }
    from (inr end) =
        record { before = g ∷ end.before; last = end.last; is = ap (λ (l : List Group). g ∷ l) end.is }

module _ (number : Group → ℕ) (h g : Group) where
  -- the test of `since_change` at a group x
  abbrev like : Group → Group → Bool
  like x y = eqb (number y) (number x)

  like-last : (x : Group) (gs : List Group) → each (like x) (gs ++ h ∷ []) ≡ true → number h ≡ number x
  like-last x gs all =
      eqb-true (number h) (number x) (and_right (each (like x) gs) (like x h) (sym (each_more (like x) h gs) ∙ all))

  pub since_same :
      (gs : List Group) → number h ≡ number g →
      since_change number ((gs ++ h ∷ []) ++ g ∷ []) ≡ since_change number (gs ++ h ∷ []) ++ g ∷ []
  unfolding since_change each
  since_same [] e = rw (eq-eqb (number g) (number h) (sym e))
  since_same (x ∷ gs) e = by_test (each (like x) (gs ++ h ∷ [])) refl (since_same gs e)
    where
      by_test :
          (t : Bool) → each (like x) (gs ++ h ∷ []) ≡ t →
          since_change number ((gs ++ h ∷ []) ++ g ∷ []) ≡ since_change number (gs ++ h ∷ []) ++ g ∷ [] →
          since_change number (((x ∷ gs) ++ h ∷ []) ++ g ∷ []) ≡ since_change number ((x ∷ gs) ++ h ∷ []) ++ g ∷ []
      by_test true all later =
          rw (each_more (like x) g (gs ++ h ∷ []), all, eq-eqb (number g) (number x) (sym e ∙ like-last x gs all))
      by_test false all later = rw (each_more (like x) g (gs ++ h ∷ []), all) later

  pub since_other :
      (gs : List Group) → (number h ≡ number g → ⊥) → since_change number ((gs ++ h ∷ []) ++ g ∷ []) ≡ g ∷ []
  unfolding since_change each
  since_other [] ne = rw (ne_eqb (number g) (number h) (λ e. ne (sym e)))
  since_other (x ∷ gs) ne =
      rw (false_by (each (like x) ((gs ++ h ∷ []) ++ g ∷ [])) never) (since_other gs ne)
    where
      never : each (like x) ((gs ++ h ∷ []) ++ g ∷ []) ≡ true → ⊥
      never all =
          let both = sym (each_more (like x) g (gs ++ h ∷ [])) ∙ all in
          let of-h = like-last x gs (and_left (each (like x) (gs ++ h ∷ [])) (like x g) both) in
          let of-g = eqb-true (number g) (number x) (and_right (each (like x) (gs ++ h ∷ [])) (like x g) both) in
          ne (of-h ∙ sym of-g)
