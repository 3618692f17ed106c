-- What `first` finds, and only then: each law is an induction on the number of places.
use Rattle.std.specs.Prelude.{Option, Some, None, MatchOption}
use Prim.Native.Nat.{ℕ, zero, suc, ◌+◌, ◌<◌, ◌≤◌}
use mathlib.Core.Path.{◌≡◌, refl, sym, ap, ◌∙◌}
use mathlib.Core.Bool.{Bool, true, false, cond}
use mathlib.Core.Logic.{⊎_elim}
use native.Mathlib.Nat.{eq-or-lt_of_le, le_refl, add-zero}
use native.Mathlib.Omega.{arith}
use Rattle.marker.specs.First.{first, on_found}

-- p is the first of the n places from i on of which f says yes
pub record Spot (f : ℕ → Bool) (i n p : ℕ) : Type 0 where
  pub from : i ≤ p
  pub below : p < i + n
  pub here : f p ≡ true
  pub before : (q : ℕ) → i ≤ q → q < p → f q ≡ false

-- f says no of all n places from i on
abbrev pub Never : (ℕ → Bool) → ℕ → ℕ → Type 0
Never f i n = (q : ℕ) → i ≤ q → q < i + n → f q ≡ false

module _ (f : ℕ → Bool) where
  first-here : (i n : ℕ) → f i ≡ true → first f i (suc n) ≡ Some i
  unfolding first
  first-here i n e = rw e

  first_past : (i n : ℕ) → f i ≡ false → first f i (suc n) ≡ first f (suc i) n
  unfolding first
  first_past i n e = rw e

  pub first_at : (i n p : ℕ) → Spot f i n p → first f i n ≡ Some p
  first_at i zero p s = absurd (omega arith)
  first_at i (suc n) p s =
      ⊎_elim (λ e. first-here i n (ap f e ∙ s.here) ∙ ap Some e)
      (λ l. first_past i n (s.before i (le_refl i) l)
      ∙ first_at (suc i) n p
      (record { from = l; below = omega arith; here = s.here; before = λ q a b. s.before q (omega arith) b }))
      (eq-or-lt_of_le s.from)

  pub first_none : (i n : ℕ) → Never f i n → first f i n ≡ None
  unfolding first
  first_none i zero never = refl
  first_none i (suc n) never =
      first_past i n (never i (le_refl i) (omega arith))
      ∙ first_none (suc i) n (λ q a b. never q (omega arith) (omega arith))

  -- f at i is known, and what is known from the next place on
  more-places : (i n : ℕ) → f i ≡ false → Never f (suc i) n → Never f i (suc n)
  more-places i n e never q a b = ⊎_elim (λ s. ap f (sym s) ∙ e) (λ l. never q l (omega arith)) (eq-or-lt_of_le a)

  pub at_first : (i n p : ℕ) → first f i n ≡ Some p → Spot f i n p
  unfolding first
  at_first i zero p e = absurd (let z : ◌≡◌ {A = ℕ} 0 1 = cc in omega arith)
  at_first i (suc n) p e = told (f i) refl (at_first (suc i) n p)
    where
      told : (b : Bool) → f i ≡ b → (first f (suc i) n ≡ Some p → Spot f (suc i) n p) → Spot f i (suc n) p
      told true t rest =
          let h : Some i ≡ Some p = sym (first-here i n t) ∙ e in
          let s : i ≡ p = cc in
          record {
            from = omega arith;
            below = omega arith;
            here = ap f (sym s) ∙ t;
            before = λ q a b. absurd
                (omega arith);
          }
      told false t rest =
          let s = rest (sym (first_past i n t) ∙ e) in
          record {
            from = omega arith;
            below = omega arith;
            here = s.here;
            before = λ q a b. ⊎_elim (λ d. ap f (sym d) ∙ t) (λ l. s.before q l b) (eq-or-lt_of_le a);
          }

  pub none_first : (i n : ℕ) → first f i n ≡ None → Never f i n
  none_first i zero e = λ q a b. absurd (omega arith)
  none_first i (suc n) e = told (f i) refl (none_first (suc i) n)
    where
      told : (b : Bool) → f i ≡ b → (first f (suc i) n ≡ None → Never f (suc i) n) → Never f i (suc n)
      told true t rest =
          let h : Some i ≡ None = sym (first-here i n t) ∙ e in
          absurd (let z : ◌≡◌ {A = ℕ} 0 1 = cc in omega arith)
      told false t rest = more-places i n t (rest (sym (first_past i n t) ∙ e))

  -- one place more, at the end
  pub first_more : (i n : ℕ) → first f i (suc n) ≡ on_found (first f i n) Some (cond (f (i + n)) (Some (i + n)) None)
  unfolding first
  first_more i zero = rw (add-zero i)
  first_more i (suc n) = told (f i) refl (first_more (suc i) n)
    where
      next : i + suc n ≡ suc i + n
      next = omega arith

      told : (b : Bool) → f i ≡ b
          → first f (suc i) (suc n) ≡ on_found (first f (suc i) n) Some (cond (f (suc i + n)) (Some (suc i + n)) None)
          → first f i (suc (suc n)) ≡ on_found (first f i (suc n)) Some (cond (f (i + suc n)) (Some (i + suc n)) None)
      told true t rest = rw t
      told false t rest = rw (t, next) rest

  -- what a search of the n places from 0 on finds
  pub first_found : (n : ℕ) (r : Option ℕ)
      → MatchOption r ((q : ℕ) → 0 ≤ q → q < n → f q ≡ false)
      (λ p. (0 ≤ p) × (p < n) × (f p ≡ true) × ((q : ℕ) → 0 ≤ q → q < p → f q ≡ false))
      → r ≡ first f 0 n
  first_found n None never = sym (first_none 0 n (λ q a b. never q a (omega arith)))
  first_found n (Some p) at =
      sym (first_at 0 n p (record { from = at.0; below = omega (arith, at.1); here = at.2; before = at.3 }))

-- it depends on the places that it looks at alone
pub first_cong : (f g : ℕ → Bool) (i n : ℕ) → ((q : ℕ) → i ≤ q → q < i + n → f q ≡ g q) → first f i n ≡ first g i n
unfolding first
first_cong f g i zero same = refl
first_cong f g i (suc n) same =
    rw (same i (le_refl i) (omega arith), first_cong f g (suc i) n (λ q a b. same q (omega arith) (omega arith)))
