-- The group: four words of 16 bits, and a mask that says, by one yes or no for each word, which were good.
use Rattle.std.specs.Prelude.{ℕ, List, Bool, true, false, cond, ◌&&◌, leb, get_or, set, replicate, is_ok}
use Rattle.std.specs.Result.{result_unwrap_or}
use Rattle.blocks.specs.Block.{Judged}
use Rattle.groups.specs.declared.Group.{Group}

-- ---- reading a group

-- a group has four places, from 0: word 1 of the standard is at place 0
abbrev pub places : ℕ
places = 4

-- the word at place i; 0 where there is no such place
unfoldable pub word_of : Group → ℕ → ℕ
word_of group i = cond (leb places i) 0 (get_or group.words i 0)

-- place i of the mask is that of the word at place i; nothing is good where there is no such place
unfoldable pub good_of : Group → ℕ → Bool
good_of group i = cond (leb places i) false (get_or group.good i false)

-- all four blocks were good
unfoldable pub is_all_good_of : Group → Bool
is_all_good_of group = good_of group 0 && good_of group 1 && good_of group 2 && good_of group 3

-- only groups with all four blocks good count
unfoldable pub counts_of : Group → Bool
counts_of group = is_all_good_of group

-- ---- making a group

-- nothing has come: all words 0, nothing good
abbrev pub empty_of : Group
empty_of = record { words = replicate places 0; good = replicate places false }

-- a bad block's word is answered as 0
abbrev pub judged_word : Judged → ℕ
judged_word judged = result_unwrap_or judged 0

abbrev pub judged_good : Judged → Bool
judged_good judged = is_ok judged

-- a judged block at place i; nothing changes where there is no such place
unfoldable pub with_block_of : Group → ℕ → Judged → Group
with_block_of group i judged =
    cond (leb places i) group
    (record { words = set group.words i (judged_word judged); good = set group.good i (judged_good judged) })

-- four good words
abbrev pub all_good_of : List ℕ → Group
all_good_of words = record { words = words; good = replicate places true }
