-- The different frequencies among some: one more at the end is kept exactly if it is not among those before it.
use Prim.Native.Nat.{ℕ}
use mathlib.Core.Bool.{Bool, true, false, cond, ◌||◌}
use mathlib.Core.List.{List, [], ◌∷◌, ◌++◌, append-nil}
use mathlib.Core.Path.{◌≡◌, refl, sym, ap, ◌∙◌}
use borrow.Author.Tests.{eqb-true, eqb-false, eq-eqb, ne_eqb}
use lib.Dec.{eqb}
use Rattle.frequencies.specs.AfList.{is_in}
use Rattle.frequencies.specs.AfHistory.{without, different}

-- the test of equal numbers, the other way round
eqb_swap : (a b : ℕ) (t : Bool) → eqb a b ≡ t → eqb b a ≡ t
eqb_swap a b true e = eq-eqb b a (sym (eqb-true a b e))
eqb_swap a b false e = ne_eqb b a (λ h. eqb-false a b e (sym h))

-- the others of two lists joined
without-append : (x : ℕ) (s t : List ℕ) → without x (s ++ t) ≡ without x s ++ without x t
unfolding without
without-append x [] t = refl
without-append x (y ∷ s) t = simp (without-append x s t, kept (eqb y x) (without x s))
  where
    kept :
        (b : Bool) (l : List ℕ) →
        cond b (l ++ without x t) (y ∷ (l ++ without x t)) ≡ cond b l (y ∷ l) ++ without x t
    kept true l = refl
    kept false l = refl

-- a frequency is among the others of some exactly if it is another and among them
is_in-without : (k x : ℕ) (l : List ℕ) → is_in k (without x l) ≡ cond (eqb x k) false (is_in k l)
unfolding without is_in
is_in-without k x [] = none (eqb x k)
  where
    none : (b : Bool) → false ≡ cond b false false
    none true = refl
    none false = refl
is_in-without k x (y ∷ l) = go (is_in-without k x l) (eqb y x) refl (eqb x k) refl
  where
    go :
        is_in k (without x l) ≡ cond (eqb x k) false (is_in k l) →
        (a : Bool) →
        eqb y x ≡ a →
        (b : Bool) →
        eqb x k ≡ b →
        is_in k (cond a (without x l) (y ∷ without x l)) ≡ cond b false (eqb y k || is_in k l)
    go fewer true e true f = fewer ∙ simp f
    go fewer true e false f = fewer ∙ simp (f, eqb-true y x e)
    go fewer false e true f = simp (fewer, f, ne_eqb y k (λ h. eqb-false y x e (h ∙ sym (eqb-true x k f))))
    go fewer false e false f = simp (fewer, f)

-- the different ones are the same frequencies
pub is_in-different : (k : ℕ) (ks : List ℕ) → is_in k (different ks) ≡ is_in k ks
unfolding different is_in
is_in-different k [] = refl
is_in-different k (x ∷ ks) = simp (is_in-without k x (different ks), is_in-different k ks, either (eqb x k))
  where
    either : (b : Bool) → (b || cond b false (is_in k ks)) ≡ (b || is_in k ks)
    either true = refl
    either false = refl

-- one frequency more
pub different_snoc :
    (ks : List ℕ) (k : ℕ) →
    different (ks ++ k ∷ []) ≡ cond (is_in k ks) (different ks) (different ks ++ k ∷ [])
unfolding different without is_in
different_snoc [] k = refl
different_snoc (x ∷ ks) k =
    ap (λ (l : List ℕ). x ∷ without x l) (different_snoc ks k) ∙ go (is_in k ks) (eqb x k) refl
  where
    go :
        (a b : Bool) →
        eqb x k ≡ b →
        x ∷ without x (cond a (different ks) (different ks ++ k ∷ []))
        ≡ cond (b || a) (x ∷ without x (different ks)) (x ∷ without x (different ks) ++ k ∷ [])
    go true true e = refl
    go true false e = refl
    go false true e = simp (without-append, eqb_swap x k true e, append-nil)
    go false false e = simp (without-append, eqb_swap x k false e)
