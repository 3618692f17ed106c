-- One group more at the end: which groups pass a test, whether one or each does, and what the last one says.
-- And a list that is said by its places.
use Prim.Native.Nat.{ℕ, zero, suc, ◌<◌}
use mathlib.Core.Path.{◌≡◌, refl, sym, ap, ◌∙◌}
use mathlib.Core.Bool.{Bool, true, false, cond, ◌&&◌, ◌||◌, and-true, and_assoc}
use mathlib.Core.List.{List, [], ◌∷◌, ◌++◌}
use native.Mathlib.Omega.{arith}
use lib.ListN.{length, get_or, replicate}
use lib.Seq.{ext_get_or}
use Rattle.groups.specs.declared.Group.{Group}
use Rattle.station.specs.History.{those, some, each, latest, listed}

-- ---- one group more

-- a choice goes through the end of a list, and through a mark
cond-end : (t : Bool) (h g : Group) (gs : List Group) →
    cond t (h ∷ gs ++ g ∷ []) (gs ++ g ∷ []) ≡ cond t (h ∷ gs) gs ++ g ∷ []
cond-end true h g gs = refl
cond-end false h g gs = refl

or-mark : (t m s : Bool) → (t || cond m true s) ≡ cond m true (t || s)
or-mark true true s = refl
or-mark true false s = refl
or-mark false m s = refl

mark-or : (m : Bool) → (m || false) ≡ cond m true false
mark-or true = refl
mark-or false = refl

module _ (test : Group → Bool) (g : Group) where
  pub those_more : (gs : List Group) → test g ≡ true → those test (gs ++ g ∷ []) ≡ those test gs ++ g ∷ []
  unfolding those
  those_more [] e = rw e
  those_more (h ∷ gs) e = rw (those_more gs e) (cond-end (test h) h g (those test gs))

  pub those_same : (gs : List Group) → test g ≡ false → those test (gs ++ g ∷ []) ≡ those test gs
  unfolding those
  those_same [] e = rw e
  those_same (h ∷ gs) e = rw (those_same gs e)

  pub each_more : (gs : List Group) → each test (gs ++ g ∷ []) ≡ (each test gs && test g)
  unfolding each
  each_more [] = and-true (test g)
  each_more (h ∷ gs) = rw (each_more gs) (sym (and_assoc (test h) (each test gs) (test g)))

  pub some_more : (gs : List Group) → some test (gs ++ g ∷ []) ≡ cond (test g) true (some test gs)
  unfolding some
  some_more [] = mark-or (test g)
  some_more (h ∷ gs) = rw (some_more gs) (or-mark (test h) (test g) (some test gs))

module _ {A : Type 0} (says : Group → A) (g : Group) where
  pub latest_more : (none : A) (gs : List Group) → latest none says (gs ++ g ∷ []) ≡ says g
  unfolding latest
  latest_more none [] = refl
  latest_more none (h ∷ gs) = latest_more (says h) gs

  pub latest_those :
      (none : A) (test : Group → Bool) (gs : List Group) →
      latest none says (those test (gs ++ g ∷ [])) ≡ cond (test g) (says g) (latest none says (those test gs))
  latest_those none test gs = by_test (test g) refl
    where
      by_test :
          (t : Bool) → test g ≡ t →
          latest none says (those test (gs ++ g ∷ [])) ≡ cond (test g) (says g) (latest none says (those test gs))
      by_test true e = rw (those_more test g gs e, e) (latest_more none (those test gs))
      by_test false e = rw (those_same test g gs e, e)

-- ---- a list said by its places

module _ {A : Type 0} where
  pub length_listed : (n : ℕ) (says : ℕ → A) → length (listed n says) ≡ n
  unfolding listed
  length_listed zero says = refl
  length_listed (suc n) says = ap suc (length_listed n (λ i. says (suc i)))

  pub get_d_listed : (n : ℕ) (says : ℕ → A) (i : ℕ) (d : A) → i < n → get_or (listed n says) i d ≡ says i
  unfolding listed
  get_d_listed zero says i d h = absurd (omega arith)
  get_d_listed (suc n) says zero d h = refl
  get_d_listed (suc n) says (suc i) d h = get_d_listed n (λ j. says (suc j)) i d (omega arith)

  pub listed_by :
      (n : ℕ) (says : ℕ → A) (d : A) (l : List A) →
      length l ≡ n → ((i : ℕ) → i < n → get_or l i d ≡ says i) → l ≡ listed n says
  listed_by n says d l len at =
      ext_get_or d l (listed n says) (len ∙ sym (length_listed n says))
      (λ i h. let below : i < n = omega (arith, len) in at i below ∙ sym (get_d_listed n says i d below))

  pub listed_same : (n : ℕ) (f g : ℕ → A) → ((i : ℕ) → i < n → f i ≡ g i) → listed n f ≡ listed n g
  unfolding listed
  listed_same zero f g same = refl
  listed_same (suc n) f g same =
      rw (same 0 (omega arith))
      (ap (λ (l : List A). g 0 ∷ l)
      (listed_same n (λ i. f (suc i)) (λ i. g (suc i)) (λ i h. same (suc i) (omega arith))))

  pub listed_replicate : (n : ℕ) (a : A) → listed n (λ _. a) ≡ replicate n a
  unfolding listed
  listed_replicate zero a = refl
  listed_replicate (suc n) a = ap (λ (l : List A). a ∷ l) (listed_replicate n a)
