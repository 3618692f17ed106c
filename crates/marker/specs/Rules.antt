-- The marking rules, each by itself in the words of the course and not as a test that the marker runs; and, over
-- them, when each answer of the table is given.
use Rattle.std.specs.Prelude.{ℕ, ◌+◌, ◌*◌, ◌<◌, ◌≤◌, ◌≡◌, List, true, length, eqb}
use Rattle.blocks.specs.Block.{Valid}
use Rattle.groups.specs.Header.{type_of, version_of, tp_of as tp_in, pty_of as pty_in}
use Rattle.groups.specs.Content.{name_address, text_address, text_flag}
use Rattle.groups.specs.Written.{group_size, block_in}
use Rattle.keys.specs.Sheet.{HasExercise, key_at}
use Rattle.keys.specs.Fields.{pi_of, pty_of, tp_of, name_pair_of, text_pair_of}
use Rattle.keys.specs.Wanted.{wanted_address}
use Rattle.keys.specs.Good.{GoodKey}
use Rattle.marker.specs.declared.Verdict.{Verdict}
use Rattle.marker.specs.declared.Verdict.TheVariants.{Passed, NoKey, BadKey, BadLength, BadBlock, BadHeader}
use Rattle.marker.specs.declared.Verdict.TheVariants.{BadContent, Missing}
use Rattle.marker.specs.Submission.{groups_in, blocks_in, word_at, kind_at}
use Rattle.marker.specs.Tests.{submission_limit, text_at}

-- ---- the length and the blocks

-- at least one group, whole groups only, and no more than 13,312 bytes
pub record GoodLength (s : List ℕ) : Type 0 where
  pub groups : ℕ
  pub whole : length s ≡ group_size * groups
  pub some : 1 ≤ groups
  pub few : length s ≤ submission_limit

-- block j is valid as its kind, third by word 2 of its group
abbrev pub BlockRight : List ℕ → ℕ → Type 0
BlockRight s j = Valid (kind_at s j) (block_in s j)

-- every block is
abbrev pub BlocksRight : List ℕ → Type 0
BlocksRight s = (j : ℕ) → j < blocks_in s → BlockRight s j

-- ---- what a group is

-- 0A or 0B
abbrev pub IsName : List ℕ → ℕ → Type 0
IsName s g = type_of (word_at s g 1) ≡ 0

-- 2A
abbrev pub Is2A : List ℕ → ℕ → Type 0
Is2A s g = (type_of (word_at s g 1) ≡ 2) × (version_of (word_at s g 1) ≡ 0)

-- 2B
abbrev pub Is2B : List ℕ → ℕ → Type 0
Is2B s g = (type_of (word_at s g 1) ≡ 2) × (version_of (word_at s g 1) ≡ 1)

-- groups g and h, both 2A, have the same flag
abbrev pub SameFlag : List ℕ → ℕ → ℕ → Type 0
SameFlag s g h = text_flag (word_at s g 1) ≡ text_flag (word_at s h 1)

-- the first 2A
abbrev pub First2A : List ℕ → ℕ → Type 0
First2A s g = Is2A s g × ((h : ℕ) → h < g → Is2A s h → ⊥)

-- ---- the header of a group

-- PI, TP and PTY are the key's, and where the version is 1 the third word is the key's PI
pub record HeaderRight (k s : List ℕ) (g : ℕ) : Type 0 where
  pub pi : word_at s g 0 ≡ pi_of k
  pub tp : eqb (tp_in (word_at s g 1)) 1 ≡ tp_of k
  pub pty : pty_in (word_at s g 1) ≡ pty_of k
  pub third : version_of (word_at s g 1) ≡ 1 → word_at s g 2 ≡ pi_of k

-- ---- the content of a group

-- a name pair is the key's
abbrev pub NameRight : List ℕ → List ℕ → ℕ → Type 0
NameRight k s g = IsName s g → word_at s g 3 ≡ name_pair_of k (name_address (word_at s g 1))

-- the text of a 2A is the key's
abbrev pub TextRight : List ℕ → List ℕ → ℕ → Type 0
TextRight k s g =
    Is2A s g
    → (word_at s g 2 ≡ text_pair_of k (2 * text_address (word_at s g 1)))
    × (word_at s g 3 ≡ text_pair_of k (2 * text_address (word_at s g 1) + 1))

-- a 2A is wanted
abbrev pub TextWanted : List ℕ → List ℕ → ℕ → Type 0
TextWanted k s g = Is2A s g → wanted_address k (text_at (text_address (word_at s g 1))) ≡ true

-- there is no 2B
abbrev pub No2B : List ℕ → ℕ → Type 0
No2B s g = Is2B s g → ⊥

-- the flag of a 2A is the first 2A's
abbrev pub FlagRight : List ℕ → ℕ → Type 0
FlagRight s g = Is2A s g → (h : ℕ) → First2A s h → SameFlag s g h

-- the five of them
pub record ContentRight (k s : List ℕ) (g : ℕ) : Type 0 where
  pub name : NameRight k s g
  pub text : TextRight k s g
  pub wanted : TextWanted k s g
  pub no_2B : No2B s g
  pub flag : FlagRight s g

-- header and content
abbrev pub GroupRight : List ℕ → List ℕ → ℕ → Type 0
GroupRight k s g = HeaderRight k s g × ContentRight k s g

-- of every group
abbrev pub GroupsRight : List ℕ → List ℕ → Type 0
GroupsRight k s = (g : ℕ) → g < groups_in s → GroupRight k s g

-- ---- the addresses

-- group g brings address a: a name address (0-3) or a text address (4-19)
pub data Brings (s : List ℕ) (g a : ℕ) : Type 0 where
  name : IsName s g → name_address (word_at s g 1) ≡ a → Brings s g a
  text : Is2A s g → text_at (text_address (word_at s g 1)) ≡ a → Brings s g a

-- there is a group that brings address a
abbrev pub Came : List ℕ → ℕ → Type 0
Came s a = (g : ℕ) × (g < groups_in s) × Brings s g a

-- ---- all of them

-- the marking rules of a submission s against the key k
pub record Rules (k s : List ℕ) : Type 0 where
  pub blocks : BlocksRight s
  pub headers : (g : ℕ) → g < groups_in s → HeaderRight k s g
  pub names : (g : ℕ) → g < groups_in s → NameRight k s g
  pub texts : (g : ℕ) → g < groups_in s → TextRight k s g
  pub wanted : (g : ℕ) → g < groups_in s → TextWanted k s g
  pub no_2B : (g : ℕ) → g < groups_in s → No2B s g
  pub flags : (g h : ℕ) → g < groups_in s → h < groups_in s → Is2A s g → Is2A s h
      → SameFlag s g h
  pub came : (a : ℕ) → wanted_address k a ≡ true → Came s a

-- ---- the answers: each at the first place at which its rule fails, where all earlier rules hold

-- the key is there and good
abbrev pub KeyGood : List ℕ → ℕ → Type 0
KeyGood sheet n = HasExercise sheet n × GoodKey (key_at sheet n)

-- when an answer is given: the table in the words of the rules
unfoldable pub Told : List ℕ → ℕ → List ℕ → Verdict → Type 0
Told sheet n s Passed = KeyGood sheet n × GoodLength s × Rules (key_at sheet n) s
Told sheet n s NoKey = HasExercise sheet n → ⊥
Told sheet n s BadKey = HasExercise sheet n × (GoodKey (key_at sheet n) → ⊥)
Told sheet n s BadLength = KeyGood sheet n × (GoodLength s → ⊥)
Told sheet n s (BadBlock j) =
    KeyGood sheet n × GoodLength s
    × (j < blocks_in s) × (BlockRight s j → ⊥) × ((i : ℕ) → i < j → BlockRight s i)
Told sheet n s (BadHeader g) =
    KeyGood sheet n × GoodLength s × BlocksRight s
    × (g < groups_in s) × (HeaderRight (key_at sheet n) s g → ⊥) × ((h : ℕ) → h < g → GroupRight (key_at sheet n) s h)
Told sheet n s (BadContent g) =
    KeyGood sheet n × GoodLength s × BlocksRight s
    × (g < groups_in s) × HeaderRight (key_at sheet n) s g × (ContentRight (key_at sheet n) s g → ⊥)
    × ((h : ℕ) → h < g → GroupRight (key_at sheet n) s h)
Told sheet n s (Missing a) =
    KeyGood sheet n × GoodLength s × BlocksRight s × GroupsRight (key_at sheet n) s
    × (wanted_address (key_at sheet n) a ≡ true) × (Came s a → ⊥)
    × ((b : ℕ) → b < a → wanted_address (key_at sheet n) b ≡ true → Came s b)
