-- A group as it is sent: four blocks, and thirteen bytes, eight bits to a byte, first bit highest; and read back from
-- them.
use Rattle.std.specs.Prelude.{ℕ, ◌+◌, ◌*◌, ◌^◌, List, [], ◌∷◌, ◌++◌, Bool, cond, ltb, length, get_or, take, drop}
use Rattle.std.specs.Prelude.{Result, Ok, Err}
use Rattle.bits.specs.Spell.{spell}
use Rattle.bits.specs.Bytes.{bit_at, bytes_of}
use Rattle.blocks.specs.Block.{Judged, write_of, judge_of}
use Rattle.groups.specs.Group.{empty_of, with_block_of}
use Rattle.groups.specs.Header.{expected_of}
use Rattle.groups.specs.declared.Group.{Group}
use Rattle.groups.specs.declared.bytes.TooShort.{TooShort}

-- ---- writing

-- the block at place i: any word, the third kind by word 2
abbrev pub block_of : List ℕ → ℕ → ℕ
block_of words i = write_of (get_or words i 0) (expected_of i (get_or words 1 0))

-- any four words as four blocks; a third word that isn't PI is written as given
unfoldable pub blocks_of : List ℕ → List ℕ
blocks_of words = block_of words 0 ∷ block_of words 1 ∷ block_of words 2 ∷ block_of words 3 ∷ []

-- four blocks one after the other, as one number of 104 bits
unfoldable pub four_blocks : ℕ → ℕ → ℕ → ℕ → ℕ
four_blocks a b c d = ((a * 2 ^ 26 + b) * 2 ^ 26 + c) * 2 ^ 26 + d

-- a group takes 13 bytes
abbrev pub group_size : ℕ
group_size = 13

-- any four words as 13 bytes
unfoldable pub group_bytes : List ℕ → List ℕ
group_bytes words = bytes_of group_size (four_blocks (block_of words 0) (block_of words 1) (block_of words 2)
    (block_of words 3))

-- putting them into a buffer from byte `at` on is refused where they have no room there
unfoldable pub no_room : List ℕ → ℕ → Bool
no_room out at = ltb (length out) (at + group_size)

unfoldable pub put_at_of : List ℕ → ℕ → Result (Unit {0}) TooShort
put_at_of out at = cond (no_room out at) (Err (record {})) (Ok tt)

-- 8 is "buffer too short"
abbrev pub put_number : Result (Unit {0}) TooShort → ℕ
put_number (Ok done) = 0
put_number (Err too_short) = 8

-- the buffer afterwards: the 13 bytes in their place, all others as they were
unfoldable pub buffer_of : List ℕ → List ℕ → ℕ → List ℕ
buffer_of words out at = cond (no_room out at) out (take at out ++ group_bytes words ++ drop (at + group_size) out)

-- ---- reading

-- block j of the bytes s, from 0: 26 bits; past the end there are only zeros
unfoldable pub block_in : List ℕ → ℕ → ℕ
block_in s j = spell (bit_at s) (26 * j) 26

-- its word: the first 16 of them
unfoldable pub word_in : List ℕ → ℕ → ℕ
word_in s j = spell (bit_at s) (26 * j) 16

-- block i of 13 bytes, judged as the kind that its place expects, the third by word 2
abbrev pub judged_in : List ℕ → ℕ → Judged
judged_in s i = judge_of (block_in s i) (expected_of i (word_in s 1))

-- the group that 13 bytes are
unfoldable pub group_in : List ℕ → Group
group_in s =
    with_block_of (with_block_of (with_block_of (with_block_of empty_of 0 (judged_in s 0)) 1 (judged_in s 1)) 2 (judged_in s 2))
    3 (judged_in s 3)
