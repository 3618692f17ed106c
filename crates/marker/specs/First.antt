-- The first place of which a test says yes.
use Rattle.std.specs.Prelude.{ℕ, zero, suc, Bool, cond, Option, Some, None}

-- the first of the n places from i on of which f says yes
unfoldable pub first : (ℕ → Bool) → ℕ → ℕ → Option ℕ
first f i zero = None
first f i (suc n) = cond (f i) (Some i) (first f (suc i) n)

-- what is said of the place that was found, or else
abbrev pub on_found : {A : Type 0} → Option ℕ → (ℕ → A) → A → A
on_found (Some i) said other = said i
on_found None said other = other
