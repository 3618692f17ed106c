-- A number in decimal digits reads back as the number: its digits are digits, they spell it, and a space ends them.
use Prim.Native.Nat.{ℕ, zero, suc, ◌+◌, ◌*◌, ◌-◌, ◌/◌, ◌%◌, ◌<◌, ◌≤◌}
use mathlib.Core.Path.{◌≡◌, refl, sym, ap, ap₂, ◌∙◌}
use mathlib.Core.List.{List, [], ◌∷◌, ◌++◌}
use mathlib.Core.Bool.{Bool, true, false, ◌&&◌, true≢false}
use native.Mathlib.Omega.{arith}
use lib.Dec.{ltb}
use lib.ListN.{length}
use borrow.Author.Tests.{ltb-true, ltb-false, le-leb, lt-leb}
use Rattle.letters.specs.Letters.{decimal_of}
use Rattle.letters.proofs.Digits.{digits_small, digits_large, count_small, count_large}
use Rattle.asking.specs.Exercise.{digit_zero, is_digit, all_digits, value_of, last_exercise, named_from, named_of}
use Rattle.asking.proofs.Digits.{first_named}
use Rattle.std.specs.Prelude.{Some, None}

-- ---- one digit more

value-more : (cs : List ℕ) (c high : ℕ) → value_of (cs ++ c ∷ []) high ≡ 10 * value_of cs high + (c - digit_zero)
unfolding value_of
value-more [] c high = refl
value-more (d ∷ cs) c high = value-more cs c (10 * high + (d - digit_zero))

all_more : (cs : List ℕ) (c : ℕ) → all_digits cs ≡ true → is_digit c ≡ true → all_digits (cs ++ c ∷ []) ≡ true
unfolding all_digits
all_more [] c all one = rw one
all_more (d ∷ cs) c all one = both (is_digit d) (all_digits cs) all (all_more cs c)
  where
    both : (first rest : Bool) → (first && rest) ≡ true
        → (rest ≡ true → is_digit c ≡ true → all_digits (cs ++ c ∷ []) ≡ true)
        → (first && all_digits (cs ++ c ∷ [])) ≡ true
    both true rest e more = more e one
    both false rest e more = absurd (true≢false (sym e))

-- ---- the digits of a number

module _ (n : ℕ) where
  digit : (d : ℕ) → d < 10 → is_digit (48 + d) ≡ true
  digit d h = rw (le-leb 48 (48 + d) (omega arith), le-leb (48 + d) 57 (omega arith))

  digits-one : n < 10 → (value_of (decimal_of n) 0 ≡ n) × (all_digits (decimal_of n) ≡ true)
  unfolding value_of all_digits
  digits-one h = rw (digits_small 10 48 (omega arith) n h) (omega arith, rw (digit n h))

  digits_more : 10 ≤ n → (value_of (decimal_of (n / 10)) 0 ≡ n / 10) × (all_digits (decimal_of (n / 10)) ≡ true)
      → (value_of (decimal_of n) 0 ≡ n) × (all_digits (decimal_of n) ≡ true)
  digits_more h before =
      rw (digits_large 10 48 (omega arith) n h) (
        value-more (decimal_of (n / 10)) (48 + n % 10) 0 ∙ rw before.0 (omega arith),
        all_more (decimal_of (n / 10)) (48 + n % 10) before.1 (digit (n % 10) (omega arith)),
      )

-- they spell it, and are digits
digits_of : (most n : ℕ) → n < most → (value_of (decimal_of n) 0 ≡ n) × (all_digits (decimal_of n) ≡ true)
digits_of zero n h = absurd (omega arith)
digits_of (suc most) n h = by_size (ltb n 10) refl (λ large. digits_of most (n / 10) (omega arith))
  where
    by_size : (small : Bool) → ltb n 10 ≡ small
        → (10 ≤ n → (value_of (decimal_of (n / 10)) 0 ≡ n / 10) × (all_digits (decimal_of (n / 10)) ≡ true))
        → (value_of (decimal_of n) 0 ≡ n) × (all_digits (decimal_of n) ≡ true)
    by_size true e before = digits-one n (ltb-true n 10 e)
    by_size false e before = digits_more n (ltb-false n 10 e) (before (ltb-false n 10 e))

pub decimal_value : (n : ℕ) → value_of (decimal_of n) 0 ≡ n
decimal_value n = (digits_of (suc n) n (omega arith)).0

pub decimal_digits : (n : ℕ) → all_digits (decimal_of n) ≡ true
decimal_digits n = (digits_of (suc n) n (omega arith)).1

-- ---- a space ends them

no-space : (c : ℕ) (cs : List ℕ) → c ≡ 32 → all_digits (c ∷ cs) ≡ true → ⊥
unfolding all_digits
no-space c cs e all = true≢false (sym all ∙ rw e)

same_digits : (l m x y : List ℕ) → all_digits l ≡ true → all_digits m ≡ true → l ++ 32 ∷ x ≡ m ++ 32 ∷ y → l ≡ m
unfolding all_digits
same_digits [] [] x y l m e = refl
same_digits [] (d ∷ ds) x y l m e = let space : d ≡ 32 = cc in absurd (no-space d ds space m)
same_digits (c ∷ cs) [] x y l m e = let space : c ≡ 32 = cc in absurd (no-space c cs space l)
same_digits (c ∷ cs) (d ∷ ds) x y l m e =
    let first : c ≡ d = cc in
    let rest : cs ++ 32 ∷ x ≡ ds ++ 32 ∷ y = cc in
    ap₂ (λ (a : ℕ) (l : List ℕ). a ∷ l) first
    (same_digits cs ds x y (behind (is_digit c) (all_digits cs) l) (behind (is_digit d) (all_digits ds) m) rest)
  where
    behind : (first rest : Bool) → (first && rest) ≡ true → rest ≡ true
    behind true rest e = e
    behind false rest e = absurd (true≢false (sym e))

-- two numbers with a space behind them are equal where the texts are
pub same_number : (a b : ℕ) (x y : List ℕ) → decimal_of a ++ 32 ∷ x ≡ decimal_of b ++ 32 ∷ y → a ≡ b
same_number a b x y e =
    let same = same_digits (decimal_of a) (decimal_of b) x y (decimal_digits a) (decimal_digits b) e in
    sym (decimal_value a) ∙ ap (λ (l : List ℕ). value_of l 0) same ∙ decimal_value b

-- ---- an exercise by its name

-- a number has a digit
decimal-some : (n : ℕ) → length (decimal_of n) ≡ 0 → ⊥
decimal-some n none = by_size (ltb n 10) refl
  where
    by_size : (small : Bool) → ltb n 10 ≡ small → ⊥
    by_size true e = let one = count_small 10 48 (omega arith) n (ltb-true n 10 e) in omega arith
    by_size false e = let more = count_large 10 48 (omega arith) n (ltb-false n 10 e) in omega arith

-- the exercise that a number's digits name is that number
pub decimal-named : (n : ℕ) → n ≤ last_exercise → named_of (decimal_of n) ≡ Some n
unfolding named_from
decimal-named n h =
    first_named (decimal_of n) (decimal-some n)
    ∙ rw (decimal_digits n, decimal_value n, le-leb n last_exercise h)

-- a larger number names none
pub over-named : (n : ℕ) → last_exercise < n → named_of (decimal_of n) ≡ None
unfolding named_from
over-named n h =
    first_named (decimal_of n) (decimal-some n)
    ∙ rw (decimal_digits n, decimal_value n, lt-leb n last_exercise h)

-- leading zeros are just zeros
pub zero-named : (c : ℕ) (cs : List ℕ) → named_of (digit_zero ∷ c ∷ cs) ≡ named_of (c ∷ cs)
unfolding named_of named_from all_digits value_of
zero-named c cs = refl
