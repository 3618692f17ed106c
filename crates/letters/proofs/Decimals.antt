-- Decimal digits: what the library writes of a number is what the definition says.
use Prim.Native.Nat.{ℕ, ◌+◌, ◌/◌, ◌%◌, ◌^◌, ◌<◌, ◌≤◌}
use mathlib.Core.Path.{◌≡◌, sym, ap, ◌∙◌}
use mathlib.Core.List.{List, [], ◌∷◌, ◌++◌}
use native.Mathlib.Omega.{arith}
use Rattle.std.specs.Fmt.{decimal}
use Rattle.std.proofs.lemmas.Fmt.{decimal_by_steps}
use Rattle.letters.specs.Letters.{decimal_of}
use Rattle.letters.proofs.Digits.{digits_small, digits_large}

pub decimal_same : (n : ℕ) → n < 2 ^ 64 → decimal n ≡ decimal_of n
decimal_same n h =
    decimal_by_steps (λ (n : ℕ) (ds : List ℕ). ds ≡ decimal_of n)
    (λ (n : ℕ) (small : n < 10). sym (digits_small 10 48 (omega arith) n small))
    (λ (n : ℕ) (ds : List ℕ) (large : 10 ≤ n) (e : ds ≡ decimal_of (n / 10)).
    ap (λ (l : List ℕ). l ++ (48 + n % 10) ∷ []) e ∙ sym (digits_large 10 48 (omega arith) n large))
    n h
