-- How long the texts are at most.
use Prim.Native.Nat.{ℕ, ◌≤◌, ◌^◌, ◌<◌}
use mathlib.Core.List.{[], ◌∷◌}
use mathlib.Core.Bool.{Bool, true, false, cond}
use native.Mathlib.Omega.{arith}
use lib.ListN.{length}
use Rattle.letters.specs.Letters.{decimal_of, hex_four, hex_two, is_shown, character_text}
use Rattle.letters.proofs.Digits.{count_most}

-- a number below 2 to the 64 in decimal digits
pub decimal_most : (number : ℕ) → number < 2 ^ 64 → length (decimal_of number) ≤ 20
decimal_most number h = count_most 10 48 (omega arith) 19 number (omega arith)

pub hex_most : (word : ℕ) → length (hex_four word) ≤ 4
unfolding hex_four
hex_most word = omega arith

pub character_most : (c : ℕ) → length (character_text c) ≤ 4
unfolding character_text
character_most c = by-shown (is_shown c)
  where
    by-shown : (shown : Bool) → length (cond shown (c ∷ []) (92 ∷ 120 ∷ hex_two c)) ≤ 4
    by-shown true = omega arith
    by-shown false = omega arith
