-- Digits of an exercise's name, one after the other: what is left spells the exercise, behind what was read.
use Prim.Native.Nat.{ℕ, suc, ◌+◌, ◌*◌, ◌-◌, ◌<◌, ◌≤◌}
use mathlib.Core.Path.{◌≡◌, refl}
use mathlib.Core.List.{List, [], ◌∷◌}
use mathlib.Core.Bool.{Bool, true, false, cond, ◌&&◌}
use native.Mathlib.Omega.{arith}
use native.Mathlib.Numerals.{add-one}
use lib.ListN.{length, get_or, drop, drop_of_length-le}
use lib.Seq.{drop-cons}
use borrow.Author.Tests.{le-leb, lt-leb}
use Rattle.asking.specs.Exercise.{digit_zero, is_digit, all_digits, value_of, last_exercise, named_from, named_of}
use Rattle.std.specs.Prelude.{Option, Some, None}

-- more digits make no number less
value_least : (cs : List ℕ) (high : ℕ) → high ≤ value_of cs high
unfolding value_of
value_least [] high = omega arith
value_least (c ∷ cs) high = let more = value_least cs (10 * high + (c - digit_zero)) in omega arith

-- by the next character
module _ (c : ℕ) (cs : List ℕ) (high : ℕ) where
  named_other : is_digit c ≡ false → named_from (c ∷ cs) high ≡ None
  unfolding named_from all_digits
  named_other e = rw e

  named-over : last_exercise < 10 * high + (c - digit_zero) → named_from (c ∷ cs) high ≡ None
  unfolding named_from all_digits value_of
  named-over h =
      let over = lt-leb (value_of cs (10 * high + (c - digit_zero))) last_exercise
      (omega (arith, value_least cs (10 * high + (c - digit_zero)))) in
      rw over (neither (is_digit c && all_digits cs) (Some (value_of cs (10 * high + (c - digit_zero)))))
    where
      neither : (some : Bool) (named : Option ℕ) → cond (some && false) named None ≡ None
      neither true named = refl
      neither false named = refl

  named-next : is_digit c ≡ true → named_from (c ∷ cs) high ≡ named_from cs (10 * high + (c - digit_zero))
  unfolding named_from all_digits value_of
  named-next e = rw e

named_end : (high : ℕ) → high ≤ last_exercise → named_from [] high ≡ Some high
unfolding named_from all_digits value_of
named_end high h = rw (le-leb high last_exercise h)

-- ---- over a text, from character i on

module _ (text : List ℕ) where
  pub first_named : (length text ≡ 0 → ⊥) → named_of text ≡ named_from (drop 0 text) 0
  unfolding named_of
  first_named h = by-text text h
    where
      by-text : (l : List ℕ) → (length l ≡ 0 → ⊥) → named_of l ≡ named_from (drop 0 l) 0
      by-text [] some = absurd (some refl)
      by-text (c ∷ cs) some = refl

  pub none_named : length text ≡ 0 → named_of text ≡ None
  unfolding named_of
  none_named h = by-text text h
    where
      by-text : (l : List ℕ) → length l ≡ 0 → named_of l ≡ None
      by-text [] e = refl
      by-text (c ∷ cs) e = absurd (omega arith)

  module _ (i high : ℕ) (h : i < length text) where
    pub other_named : is_digit (get_or text i 0) ≡ false → named_from (drop i text) high ≡ None
    other_named e = rw (drop-cons text i 0 h) (named_other (get_or text i 0) (drop (suc i) text) high e)

    pub over-named : last_exercise < 10 * high + (get_or text i 0 - digit_zero) → named_from (drop i text) high ≡ None
    over-named e = rw (drop-cons text i 0 h) (named-over (get_or text i 0) (drop (suc i) text) high e)

    pub next_named : is_digit (get_or text i 0) ≡ true
        → named_from (drop i text) high ≡ named_from (drop (i + 1) text) (10 * high + (get_or text i 0 - digit_zero))
    next_named e = rw (add-one i, drop-cons text i 0 h) (named-next (get_or text i 0) (drop (suc i) text) high e)

  pub last_named : (i high : ℕ) → length text ≤ i → high ≤ last_exercise → named_from (drop i text) high ≡ Some high
  last_named i high h e = rw (drop_of_length-le text h) (named_end high e)

-- a text, character by character
pub ruleset by_characters = (first_named, none_named, other_named, over-named, next_named, last_named)
