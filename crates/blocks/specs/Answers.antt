-- The paper's number and values for each answer about a block.
use Rattle.std.specs.Prelude.{ℕ, List, [], ◌∷◌, Bool, false, ◌||◌, cond, eqb, leb, Ok, Err, Some, None}
use Rattle.blocks.specs.Divide.{remainder}
use Rattle.blocks.specs.Block.{Found, Judged, kinds, offset_of, word_of, limit}
use Rattle.blocks.specs.declared.Kind.{Kind}
use Rattle.blocks.specs.declared.BlockError.TheVariants.{Bad, TooLong}

-- reading: 12 is "block over 26 bits"; a word and kind, and "none", are no refusals
abbrev pub found_number : Found → ℕ
found_number (Ok found) = 0
found_number (Err too_long) = 12

-- reading: the word and the offset of its kind, where there are any
abbrev pub found_values : Found → List ℕ
found_values (Ok (Some block)) = block.word ∷ offset_of block.kind ∷ []
found_values (Ok None) = []
found_values (Err too_long) = []

-- judging: the same number
abbrev pub judged_number : Judged → ℕ
judged_number (Ok word) = 0
judged_number (Err Bad) = 0
judged_number (Err TooLong) = 12

-- judging: the word, where the block is good
abbrev pub judged_values : Judged → List ℕ
judged_values (Ok word) = word ∷ []
judged_values (Err error) = []

-- the number for n: 12 exactly if it is over 26 bits
abbrev pub length_number : ℕ → ℕ
length_number n = cond (leb limit n) 12 0

-- r is the offset of one of these kinds
abbrev pub is_offset : List Kind → ℕ → Bool
is_offset [] r = false
is_offset (k ∷ ks) r = eqb r (offset_of k) || is_offset ks r

-- the values for reading n: what a valid block leaves is the offset of its kind
unfoldable pub read_values : ℕ → List ℕ
read_values n = cond (leb limit n) [] (cond (is_offset kinds (remainder n)) (word_of n ∷ remainder n ∷ []) [])

-- the values for judging n where kind k is expected
unfoldable pub judge_values : ℕ → Kind → List ℕ
judge_values n k = cond (leb limit n) [] (cond (eqb (remainder n) (offset_of k)) (word_of n ∷ []) [])
