-- The receiver: its state as bytes, and its answer told in a second buffer.
use Rattle.std.specs.Prelude.{ℕ, ◌/◌, ◌%◌, Bool, cond, ◌||◌, List, [], ◌∷◌, ◌++◌, eqb, ltb, length, drop}
use Rattle.groups.specs.Group.{word_of, good_of}
use Rattle.receiver.specs.declared.Answer.{Answer}
use Rattle.receiver.specs.declared.Answer.TheVariants as answers
use Rattle.receiver.specs.declared.Step.{Step}
use Rattle.receiver.specs.declared.Advanced.{Advanced}
use Rattle.receiver.specs.Answers.{bit_number, group_of}
use Rattle.receiver.specs.Machine.{step_of}
use Rattle.receiver.specs.Feeding.{advance_of}
use Rattle.saving.specs.Saving.{state_length, buffer_of, restore_of}
use Rattle.capi.specs.Groups.{bit_of}

-- the number of an answer
abbrev pub answer_code : Answer → ℕ
answer_code answers.Nothing = 0
answer_code answers.Locked = 1
answer_code (answers.Group group) = 2
answer_code answers.Lost = 3
answer_code (answers.GroupAndLost group) = 4
answer_code answers.Refused = 9

-- what is told, 14 bytes: the answer, which bit of its byte comes next, the mask, and the words, high byte first;
-- where no group is answered, mask and words of the empty one
abbrev pub told_size : ℕ
told_size = 14

unfoldable pub told_of : Answer → ℕ → List ℕ
told_of answer bit =
    answer_code answer
    ∷ bit
    ∷ bit_of (good_of (group_of answer) 0)
    ∷ bit_of (good_of (group_of answer) 1)
    ∷ bit_of (good_of (group_of answer) 2)
    ∷ bit_of (good_of (group_of answer) 3)
    ∷ word_of (group_of answer) 0 / 256
    ∷ word_of (group_of answer) 0 % 256
    ∷ word_of (group_of answer) 1 / 256
    ∷ word_of (group_of answer) 1 % 256
    ∷ word_of (group_of answer) 2 / 256
    ∷ word_of (group_of answer) 2 % 256
    ∷ word_of (group_of answer) 3 / 256
    ∷ word_of (group_of answer) 3 % 256
    ∷ []

-- one of the buffers, of these lengths, is too short
abbrev pub no_room : ℕ → ℕ → Bool
no_room state told = ltb state state_length || ltb told told_size

-- ---- one bit

-- 8 where a buffer is too short, 9 where the bit is neither 0 nor 1, else 0
unfoldable pub bit_refused : List ℕ → ℕ → List ℕ → ℕ
bit_refused state bit told = cond (no_room (length state) (length told)) 8 (bit_number bit)

-- the step
abbrev pub stepped : List ℕ → ℕ → Step
stepped state bit = step_of (restore_of state) bit

-- the state's bytes then; every refusal leaves them as they were
unfoldable pub stepped_state : List ℕ → ℕ → List ℕ → List ℕ
stepped_state state bit told =
    cond (eqb (bit_refused state bit told) 0) (buffer_of (stepped state bit).next state) state

-- what is told
unfoldable pub stepped_told : List ℕ → ℕ → List ℕ → List ℕ
stepped_told state bit told =
    cond (eqb (bit_refused state bit told) 0)
    (told_of (stepped state bit).answer 0 ++ drop told_size told) told

-- ---- bytes from a place on

abbrev pub fed : List ℕ → List ℕ → ℕ → ℕ → Advanced
fed state bytes byte bit = advance_of (restore_of state) bytes byte bit

-- the byte of the next bit
unfoldable pub place_after : List ℕ → List ℕ → ℕ → ℕ → List ℕ → ℕ
place_after state bytes byte bit told =
    cond (no_room (length state) (length told)) byte (fed state bytes byte bit).byte

-- the state's bytes then
unfoldable pub state_after : List ℕ → List ℕ → ℕ → ℕ → List ℕ → List ℕ
state_after state bytes byte bit told =
    cond (no_room (length state) (length told)) state (buffer_of (fed state bytes byte bit).next state)

-- what is told
unfoldable pub told_after : List ℕ → List ℕ → ℕ → ℕ → List ℕ → List ℕ
told_after state bytes byte bit told =
    cond (no_room (length state) (length told)) told
    (told_of (fed state bytes byte bit).answer (fed state bytes byte bit).bit ++ drop told_size told)
