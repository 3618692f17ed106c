-- The number that bits spell, first bit highest, over any source of bits: `f i` is bit i.
use Rattle.std.specs.Prelude.{ℕ, zero, suc, ◌+◌, ◌*◌, ◌<◌, List, get_or}

-- the number that the n bits from bit i on spell
unfoldable pub spell : (ℕ → ℕ) → ℕ → ℕ → ℕ
spell f i zero = 0
spell f i (suc n) = spell f i n * 2 + f (i + n)

-- a source of bits: each is 0 or 1
abbrev pub Bits : (ℕ → ℕ) → Type 0
Bits f = (i : ℕ) → f i < 2

-- the source that a list of bits is, the oldest first; 0 past its end
abbrev pub listed : List ℕ → ℕ → ℕ
listed bs i = get_or bs i 0
