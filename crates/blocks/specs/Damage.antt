-- What damage a block shows: bits as they are sent, `f j` and `g j` the bit at place j of the block, before and after.
use Rattle.std.specs.Prelude.{ℕ, zero, suc, ◌+◌, ◌<◌, ◌≤◌, ◌≡◌}
use Rattle.std.specs.Int.Bits.{bit_xor}

-- the bits of a block
abbrev pub block_bits : ℕ
block_bits = 26

-- so many neighbouring bits
abbrev pub neighbours : ℕ
neighbours = 10

-- so many bits anywhere
abbrev pub anywhere : ℕ
anywhere = 2

-- how many of the first n bits are turned
unfoldable pub turned : (ℕ → ℕ) → (ℕ → ℕ) → ℕ → ℕ
turned f g zero = 0
turned f g (suc n) = turned f g n + bit_xor (f n) (g n)

-- one or more bits of a block turned, all of them within ten neighbouring ones; or exactly two, anywhere in it
pub data Damage (f g : ℕ → ℕ) : Type 0 where
  within : (a : ℕ) → 1 ≤ turned f g block_bits
      → ((j : ℕ) → j < block_bits → (f j ≡ g j → ⊥) → (a ≤ j) × (j < a + neighbours)) → Damage f g
  two : turned f g block_bits ≡ anywhere → Damage f g
