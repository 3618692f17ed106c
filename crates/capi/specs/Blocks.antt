-- Blocks: each kind and each answer as one number.
use Rattle.std.specs.Prelude.{ℕ, ◌+◌, ◌*◌, ◌^◌, cond, eqb, Ok, Err, Some, None}
use Rattle.blocks.specs.declared.Kind.{Kind}
use Rattle.blocks.specs.declared.Kind.TheVariants.{A, B, C, CPrime, D}
use Rattle.blocks.specs.declared.BlockError.TheVariants.{Bad, TooLong}
use Rattle.blocks.specs.Block.{Found, Judged}

-- the kinds are 1 to 5
abbrev pub kind_number : Kind → ℕ
kind_number A = 1
kind_number B = 2
kind_number C = 3
kind_number CPrime = 4
kind_number D = 5

-- and back; a number that no other kind has is D
abbrev pub kind_numbered : ℕ → Kind
kind_numbered n = cond (eqb n 1) A (cond (eqb n 2) B (cond (eqb n 3) C (cond (eqb n 4) CPrime D)))

-- reading: the kind above the word; 0 for none, 12 where it is refused
abbrev pub found_code : Found → ℕ
found_code (Ok (Some block)) = kind_number block.kind * 2 ^ 16 + block.word
found_code (Ok None) = 0
found_code (Err too_long) = 12

-- judging: 1 above the word; 0 for bad, 12 where it is refused
abbrev pub judged_code : Judged → ℕ
judged_code (Ok word) = 2 ^ 16 + word
judged_code (Err Bad) = 0
judged_code (Err TooLong) = 12
