-- The receiver's small rules: what locks, how a block is judged at its place, when lock is lost, what is answered.
use Rattle.std.specs.Prelude.{ℕ, zero, suc, Bool, true, false, not, ltb, Ok, Err, Option, Some, None}
use Rattle.blocks.specs.Block.{Found, Judged, read_of, judge_of}
use Rattle.blocks.specs.declared.Kind.{Kind}
use Rattle.blocks.specs.declared.Kind.TheVariants.{A, B, C, CPrime, D}
use Rattle.blocks.specs.declared.BlockError.TheVariants as error
use Rattle.groups.specs.declared.Group.{Group}
use Rattle.groups.specs.Group.{judged_good}
use Rattle.groups.specs.Header.{third_kind}
use Rattle.receiver.specs.declared.Lock.{Lock}
use Rattle.receiver.specs.declared.Answer.{Answer}
use Rattle.receiver.specs.declared.Answer.TheVariants as answer

-- ---- the numbers; that each 26 bits are one block is `block_bits` of blocks

-- once 52 bits have come since hunting began, the last 52 are tried after every bit
abbrev pub pair_bits : ℕ
pair_bits = 52

-- blocks after the locking pair are counted in runs of 50
abbrev pub run_blocks : ℕ
run_blocks = 50

-- if more than 45 of a run were bad, lock is lost at its last bit
abbrev pub bad_limit : ℕ
bad_limit = 45

-- ---- hunting

-- X's follower: A then B; B then C if its version is 0, else C'; C or C' then D; D then A. The word is X's.
abbrev pub follower_of : Kind → ℕ → Kind
follower_of A word = B
follower_of B word = third_kind word
follower_of C word = D
follower_of CPrime word = D
follower_of D word = A

-- a lock on a block of this kind and word, and the word of the next
abbrev pub locking : Kind → ℕ → ℕ → Option Lock
locking kind older newer = Some (record { kind = kind; older = older; newer = newer })

-- the kind and word of the older block, and how the newer was judged as its follower
abbrev pub joined_of : Kind → ℕ → Judged → Option Lock
joined_of kind older (Ok newer) = locking kind older newer
joined_of kind older (Err error) = None

-- what the older 26 bits were found to be, and the newer 26
abbrev pub pair_of : Found → ℕ → Option Lock
pair_of (Ok (Some block)) newer = joined_of block.kind block.word (judge_of newer (follower_of block.kind block.word))
pair_of (Ok None) newer = None
pair_of (Err too_long) newer = None

-- lock is taken when the older 26 are valid as X and the newer 26 as X's follower
unfoldable pub lock_of : ℕ → ℕ → Option Lock
lock_of older newer = pair_of (read_of older) newer

-- ---- locked

-- the third block goes by how the second was judged: its version, and after a bad second block the third is bad
abbrev pub third_of : Judged → ℕ → Judged
third_of (Ok word2) bits = judge_of bits (third_kind word2)
third_of (Err why) bits = Err error.Bad

-- a block at place i of its group: good exactly if valid as the expected kind; `second` is how the second was judged
abbrev pub judged_at : ℕ → Judged → ℕ → Judged
judged_at zero second bits = judge_of bits A
judged_at (suc zero) second bits = judge_of bits B
judged_at (suc (suc zero)) second bits = third_of second bits
judged_at (suc (suc (suc i))) second bits = judge_of bits D

-- a block that is not good is bad
abbrev pub is_bad_of : Judged → Bool
is_bad_of judged = not (judged_good judged)

-- a run of which so many blocks were bad loses the lock
abbrev pub loses_of : ℕ → Bool
loses_of bad = ltb bad_limit bad

-- ---- what is answered

-- at a block's end: whether a group is done, whether lock is lost, and the group
abbrev pub say_of : Bool → Bool → Group → Answer
say_of false false group = answer.Nothing
say_of false true group = answer.Lost
say_of true false group = answer.Group group
say_of true true group = answer.GroupAndLost group
