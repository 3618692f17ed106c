-- Polynomials over bits, as numbers: bit i of the number is the coefficient of x^i. Their sum is the bitwise sum,
-- `bit_xor`; here are their product and the long division by the divisor of the rules.
use Rattle.std.specs.Prelude.{ℕ, zero, suc, ◌+◌, ◌*◌, ◌/◌, ◌%◌, ◌≡◌, cond, ltb}
use Rattle.std.specs.Int.Bits.{bit_xor}

-- x^10 + x^8 + x^7 + x^5 + x^4 + x^3 + 1
abbrev pub divisor : ℕ
divisor = 0b10110111001

-- the bits of n, highest first, taken one by one into a value by a step; the first number is at least as large as n
unfoldable pub over_bits : (ℕ → ℕ → ℕ) → ℕ → ℕ → ℕ
over_bits step zero n = 0
over_bits step (suc most) zero = 0
over_bits step (suc most) (suc n) = step (over_bits step most (suc n / 2)) (suc n % 2)

-- what has reached x^10 is made smaller by the divisor
unfoldable pub reduced : ℕ → ℕ
reduced r = cond (ltb r 1024) r (bit_xor r divisor)

-- one step of the long division: the next bit is brought down behind the remainder so far
abbrev pub bring_down : ℕ → ℕ → ℕ
bring_down r b = reduced (r * 2 + b)

-- what the long division by the divisor leaves
unfoldable pub remainder : ℕ → ℕ
remainder n = over_bits bring_down n n

-- one step of the product with g: the sum so far is moved up, and g is added where the bit is 1
abbrev pub add_shifted : ℕ → ℕ → ℕ → ℕ
add_shifted g sum b = bit_xor (sum * 2) (b * g)

-- the product of q and g
unfoldable pub times : ℕ → ℕ → ℕ
times q g = over_bits (add_shifted g) q q

-- n is a multiple of the divisor
abbrev pub Multiple : ℕ → Type 0
Multiple n = (q : ℕ) × (n ≡ times q divisor)
