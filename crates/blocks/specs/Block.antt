-- The block: 26 bits, first bit sent highest, 16 of word and then 10 of check.
use Rattle.std.specs.Prelude.{ℕ, ◌+◌, ◌*◌, ◌/◌, ◌^◌, List, [], ◌∷◌, Bool, cond, eqb, leb}
use Rattle.std.specs.Prelude.{Result, Ok, Err, Option, Some, None}
use Rattle.std.specs.Int.Bits.{bit_xor}
use Rattle.blocks.specs.Divide.{remainder, Multiple}
use Rattle.blocks.specs.declared.Kind.{Kind}
use Rattle.blocks.specs.declared.Kind.TheVariants.{A, B, C, CPrime, D}
use Rattle.blocks.specs.declared.Block.{Block}
use Rattle.blocks.specs.declared.TooLong.{TooLong}
use Rattle.blocks.specs.declared.BlockError.{BlockError}
use Rattle.blocks.specs.declared.BlockError.TheVariants as error

-- the kinds
abbrev pub kinds : List Kind
kinds = A ∷ B ∷ C ∷ CPrime ∷ D ∷ []

-- the offset of a kind
abbrev pub offset_of : Kind → ℕ
offset_of A = 0x0FC
offset_of B = 0x198
offset_of C = 0x168
offset_of CPrime = 0x350
offset_of D = 0x1B4

-- the check: the remainder of word × x^10, added bitwise to the offset of the kind
unfoldable pub check_of : ℕ → Kind → ℕ
check_of word k = bit_xor (remainder (word * 2 ^ 10)) (offset_of k)

-- the block: the word, then the check
unfoldable pub write_of : ℕ → Kind → ℕ
write_of word k = word * 2 ^ 10 + check_of word k

-- 26 bits are valid as a kind exactly if taking off that offset leaves a multiple of the divisor
abbrev pub Valid : Kind → ℕ → Type 0
Valid k n = Multiple (bit_xor n (offset_of k))

-- the same as a test: the division leaves nothing
unfoldable pub valid : Kind → ℕ → Bool
valid k n = eqb (remainder (bit_xor n (offset_of k))) 0

-- the word of a block
abbrev pub word_of : ℕ → ℕ
word_of n = n / 2 ^ 10

-- the numbers from here on are over 26 bits
abbrev pub limit : ℕ
limit = 2 ^ 26

-- what reading answers: a block or none, or that there are too many bits
abbrev pub Found : Type 0
Found = Result (Option Block) TooLong

-- a block of this word and kind
abbrev pub block : ℕ → Kind → Block
block word k = record { word = word; kind = k }

-- and that it is what was found
abbrev pub found : ℕ → Kind → Found
found word k = Ok (Some (block word k))

-- the first of these kinds that fits, with the word; none where none fits
unfoldable pub among : List Kind → ℕ → Found
among [] n = Ok None
among (k ∷ ks) n = cond (valid k n) (found (word_of n) k) (among ks n)

-- reading a block: its word and kind, or none; over 26 bits is refused
unfoldable pub read_of : ℕ → Found
read_of n = cond (leb limit n) (Err (record {})) (among kinds n)

-- what judging answers: the word of a good block, or why it is none
abbrev pub Judged : Type 0
Judged = Result ℕ BlockError

-- judging a block where a kind is expected: good with its word, or bad; over 26 bits is refused
unfoldable pub judge_of : ℕ → Kind → Judged
judge_of n k = cond (leb limit n) (Err error.TooLong) (cond (valid k n) (Ok (word_of n)) (Err error.Bad))
