-- An exercise as a person names it: a decimal number from 0 to 255, in which leading zeros are just zeros.
use Rattle.std.specs.Prelude.{ℕ, ◌+◌, ◌*◌, ◌-◌, List, [], ◌∷◌, Bool, true, cond, ◌&&◌, leb, Option, Some, None}

-- the digits are 0 to 9, from code 48 on
abbrev pub digit_zero : ℕ
digit_zero = 48

abbrev pub is_digit : ℕ → Bool
is_digit c = leb digit_zero c && leb c 57

-- nothing but digits
unfoldable pub all_digits : List ℕ → Bool
all_digits [] = true
all_digits (c ∷ cs) = is_digit c && all_digits cs

-- the number that digits spell in base 10, behind those that are worth `high`
unfoldable pub value_of : List ℕ → ℕ → ℕ
value_of [] high = high
value_of (c ∷ cs) high = value_of cs (10 * high + (c - digit_zero))

-- the highest number of an exercise
abbrev pub last_exercise : ℕ
last_exercise = 255

-- digits behind those that are worth `high`: an exercise if they spell one
unfoldable pub named_from : List ℕ → ℕ → Option ℕ
named_from cs high = cond (all_digits cs && leb (value_of cs high) last_exercise) (Some (value_of cs high)) None

-- one digit or more, which spell a number from 0 to 255; anything else names no exercise
unfoldable pub named_of : List ℕ → Option ℕ
named_of [] = None
named_of (c ∷ cs) = named_from (c ∷ cs) 0
