-- The answers 0 to 7: the number and the place of each.
use Rattle.std.specs.Prelude.{ℕ}
use Rattle.marker.specs.declared.Verdict.{Verdict}
use Rattle.marker.specs.declared.Verdict.TheVariants.{Passed, NoKey, BadKey, BadLength, BadBlock, BadHeader}
use Rattle.marker.specs.declared.Verdict.TheVariants.{BadContent, Missing}

-- the number of an answer
abbrev pub number_of : Verdict → ℕ
number_of Passed = 0
number_of NoKey = 1
number_of BadKey = 2
number_of BadLength = 3
number_of (BadBlock block) = 4
number_of (BadHeader group) = 5
number_of (BadContent group) = 6
number_of (Missing address) = 7

-- its place: of 4 the block, of 5 and 6 the group, of 7 the address, of any other 0
abbrev pub place_of : Verdict → ℕ
place_of Passed = 0
place_of NoKey = 0
place_of BadKey = 0
place_of BadLength = 0
place_of (BadBlock block) = block
place_of (BadHeader group) = group
place_of (BadContent group) = group
place_of (Missing address) = address
