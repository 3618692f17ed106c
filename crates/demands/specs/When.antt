-- The column "When" of the table, for the rows whose words no crate below has: each condition by itself, in the row's
-- own words. (Of row 2 it is `GoodKey` of keys denied; of row 10 `NoWords` and `NoDate` of clock.)
use Rattle.std.specs.Prelude.{ℕ, ◌+◌, ◌*◌, ◌<◌, ◌≡◌, List, true, false, length, eqb}
use Rattle.groups.specs.Header.{version_of, tp_of as tp_in, pty_of as pty_in}
use Rattle.groups.specs.Content.{name_address, text_address}
use Rattle.groups.specs.Written.{group_size}
use Rattle.keys.specs.Sheet.{record_size, sheet_limit, key_at}
use Rattle.keys.specs.Fields.{pi_of, pty_of, tp_of, wanted_of, name_pair_of, text_pair_of}
use Rattle.keys.specs.Wanted.{name_addresses, all_addresses}
use Rattle.keys.specs.Good.{GoodKey}
use Rattle.marker.specs.Submission.{blocks_in, word_at}
use Rattle.marker.specs.Tests.{submission_limit}
use Rattle.marker.specs.Rules.{BlockRight, IsName, Is2A, Is2B, First2A, SameFlag, Came}

-- 1: key sheet length 0, no multiple of 80, or over 20,480; or no such exercise: the sheet ends before record n does
pub data NoExercise (sheet : List ℕ) (n : ℕ) : Type 0 where
  empty : length sheet ≡ 0 → NoExercise sheet n
  uneven : ((m : ℕ) → length sheet ≡ record_size * m → ⊥) → NoExercise sheet n
  over : sheet_limit < length sheet → NoExercise sheet n
  absent : length sheet < record_size * n + record_size → NoExercise sheet n

-- 3: submission length 0, no multiple of 13, or over 13,312
pub data WrongLength (s : List ℕ) : Type 0 where
  empty : length s ≡ 0 → WrongLength s
  uneven : ((m : ℕ) → length s ≡ group_size * m → ⊥) → WrongLength s
  over : submission_limit < length s → WrongLength s

-- the rows 1, 2 and 3 do not hold
pub record Opened (sheet : List ℕ) (n : ℕ) (s : List ℕ) : Type 0 where
  pub exercise : NoExercise sheet n → ⊥
  pub key : GoodKey (key_at sheet n)
  pub long : WrongLength s → ⊥

-- 4: a block not valid as its kind, third by word 2 of its group; block j is the first such block, from 0
pub record FirstInvalid (s : List ℕ) (j : ℕ) : Type 0 where
  pub there : j < blocks_in s
  pub invalid : BlockRight s j → ⊥
  pub first : (i : ℕ) → i < j → BlockRight s i

-- 5: PI, TP or PTY not the key's, or version 1 and third word not the key's PI
pub data HeaderWrong (k s : List ℕ) (g : ℕ) : Type 0 where
  pi : (word_at s g 0 ≡ pi_of k → ⊥) → HeaderWrong k s g
  tp : (eqb (tp_in (word_at s g 1)) 1 ≡ tp_of k → ⊥) → HeaderWrong k s g
  pty : (pty_in (word_at s g 1) ≡ pty_of k → ⊥) → HeaderWrong k s g
  third : version_of (word_at s g 1) ≡ 1 → (word_at s g 2 ≡ pi_of k → ⊥) → HeaderWrong k s g

-- 6: name pair or 2A text not the key's; 2A flag unlike the first 2A's; 2B at all; 2A when no text is wanted
pub data ContentWrong (k s : List ℕ) (g : ℕ) : Type 0 where
  name : IsName s g → (word_at s g 3 ≡ name_pair_of k (name_address (word_at s g 1)) → ⊥) → ContentWrong k s g
  text-first : Is2A s g → (word_at s g 2 ≡ text_pair_of k (2 * text_address (word_at s g 1)) → ⊥) → ContentWrong k s g
  text-second : Is2A s g → (word_at s g 3 ≡ text_pair_of k (2 * text_address (word_at s g 1) + 1) → ⊥) → ContentWrong k s g
  flag : (h : ℕ) → Is2A s g → First2A s h → (SameFlag s g h → ⊥) → ContentWrong k s g
  a_2B : Is2B s g → ContentWrong k s g
  unwanted : Is2A s g → wanted_of k ≡ false → ContentWrong k s g

-- group by group: no group before group g has a fault of row 5 or row 6
abbrev pub NoneBefore : List ℕ → List ℕ → ℕ → Type 0
NoneBefore k s g = (h : ℕ) → h < g → (HeaderWrong k s h → ⊥) × (ContentWrong k s h → ⊥)

-- 7: a name address (0-3) or wanted text address (4-19) ..
pub data Wanted (k : List ℕ) (a : ℕ) : Type 0 where
  name : a < name_addresses → Wanted k a
  text : wanted_of k ≡ true → a < all_addresses → Wanted k a

-- .. missing; the place is the lowest address that never came
pub record LowestMissing (k s : List ℕ) (a : ℕ) : Type 0 where
  pub wanted : Wanted k a
  pub missing : Came s a → ⊥
  pub lowest : (b : ℕ) → b < a → Came s b

-- 8: encoder: buffer too short, for 52 bytes, or for 260 where text is wanted
pub data TooShort (k : List ℕ) (room : ℕ) : Type 0 where
  name : wanted_of k ≡ false → room < 52 → TooShort k room
  text : wanted_of k ≡ true → room < 260 → TooShort k room
