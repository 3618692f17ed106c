-- What a submission holds, read from the front: blocks and groups, numbered from 0.
use Rattle.std.specs.Prelude.{ℕ, ◌+◌, ◌*◌, ◌/◌, ◌%◌, List, length}
use Rattle.blocks.specs.declared.Kind.{Kind}
use Rattle.groups.specs.Group.{places}
use Rattle.groups.specs.Header.{expected_of}
use Rattle.groups.specs.Content.{content_of}
use Rattle.groups.specs.Written.{group_size, word_in}
use Rattle.groups.specs.declared.fields.Content.{Content}

-- how many groups there are: a group takes 13 bytes
abbrev pub groups_in : List ℕ → ℕ
groups_in s = length s / group_size

-- how many blocks
abbrev pub blocks_in : List ℕ → ℕ
blocks_in s = places * groups_in s

-- the word at place i of group g: word 1 of the standard is at place 0
abbrev pub word_at : List ℕ → ℕ → ℕ → ℕ
word_at s g i = word_in s (places * g + i)

-- the kind of block j: by its place, third by word 2 of its group
abbrev pub kind_at : List ℕ → ℕ → Kind
kind_at s j = expected_of (j % places) (word_at s (j / places) 1)

-- what group g carries
abbrev pub content_at : List ℕ → ℕ → Content
content_at s g = content_of (word_at s g 1) (word_at s g 2) (word_at s g 3)
