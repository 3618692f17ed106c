-- The paper's number for each answer of the receiver, which answers bring a group, and that group.
use Rattle.std.specs.Prelude.{ℕ, Bool, true, false, cond, ltb}
use Rattle.groups.specs.declared.Group.{Group}
use Rattle.groups.specs.Group.{empty_of}
use Rattle.receiver.specs.declared.Answer.{Answer}
use Rattle.receiver.specs.declared.Answer.TheVariants as answer

-- 9 is "bit neither 0 nor 1"; the others are no refusals
abbrev pub answer_number : Answer → ℕ
answer_number answer.Nothing = 0
answer_number answer.Locked = 0
answer_number (answer.Group group) = 0
answer_number answer.Lost = 0
answer_number (answer.GroupAndLost group) = 0
answer_number answer.Refused = 9

-- the number for a bit: 9 exactly if it is neither 0 nor 1
abbrev pub bit_number : ℕ → ℕ
bit_number bit = cond (ltb 1 bit) 9 0

-- these answers hold a group, the others none
abbrev pub brings_group : Answer → Bool
brings_group answer.Nothing = false
brings_group answer.Locked = false
brings_group (answer.Group group) = true
brings_group answer.Lost = false
brings_group (answer.GroupAndLost group) = true
brings_group answer.Refused = false

-- the group that is answered; the empty one where none is
abbrev pub group_of : Answer → Group
group_of answer.Nothing = empty_of
group_of answer.Locked = empty_of
group_of (answer.Group group) = group
group_of answer.Lost = empty_of
group_of (answer.GroupAndLost group) = group
group_of answer.Refused = empty_of
