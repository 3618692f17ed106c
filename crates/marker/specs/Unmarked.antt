-- What is not marked: TA, M/S, DI and AF. Two submissions that are alike but for these.
use Rattle.std.specs.Prelude.{ℕ, ◌/◌, ◌%◌, ◌^◌, ◌<◌, ◌≡◌, List, length}
use Rattle.groups.specs.Header.{version_of}
use Rattle.marker.specs.Submission.{groups_in, blocks_in, word_at}
use Rattle.marker.specs.Rules.{BlockRight, IsName}

-- group g of s and of t: words 1 and 4 are equal; words 2 but for bits 4 to 2 of a 0A or 0B, which are TA, M/S and DI;
-- words 3 but in a 0A, where they are AF
pub record GroupAlike (s t : List ℕ) (g : ℕ) : Type 0 where
  pub word_1 : word_at s g 0 ≡ word_at t g 0
  pub word_2_high : word_at s g 1 / 2 ^ 5 ≡ word_at t g 1 / 2 ^ 5
  pub word_2_low : word_at s g 1 % 2 ^ 2 ≡ word_at t g 1 % 2 ^ 2
  pub word_2 : (IsName s g → ⊥) → word_at s g 1 ≡ word_at t g 1
  pub word_3 : (IsName s g → version_of (word_at s g 1) ≡ 0 → ⊥) → word_at s g 2 ≡ word_at t g 2
  pub word_4 : word_at s g 3 ≡ word_at t g 3

-- as long as the other, each block valid as its kind where the other's is, and group by group alike
pub record Alike (s t : List ℕ) : Type 0 where
  pub long : length s ≡ length t
  pub block_s : (j : ℕ) → j < blocks_in s → BlockRight s j → BlockRight t j
  pub block_t : (j : ℕ) → j < blocks_in s → BlockRight t j → BlockRight s j
  pub group : (g : ℕ) → g < groups_in s → GroupAlike s t g
