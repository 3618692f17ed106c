-- Laws of the refusal: a bit is answered 9 exactly if it is neither 0 nor 1, and then nothing changes. And the group of an
-- answer that brings none is the empty one.
use Prim.Native.Nat.{ℕ, ◌+◌, ◌<◌}
use mathlib.Core.Path.{◌≡◌, refl, sym, ◌∙◌}
use mathlib.Core.Bool.{Bool, true, false, cond, true≢false}
use lib.Dec.{ltb}
use native.Mathlib.Omega.{arith}
use borrow.Author.Tests.{lt-ltb, ltb-true}
use Rattle.blocks.specs.Damage.{block_bits}
use Rattle.groups.specs.declared.Group.{Group}
use Rattle.groups.specs.Group.{empty_of}
use Rattle.receiver.specs.declared.Lock.{Lock}
use Rattle.std.specs.Prelude.{Option, Some, None}
use Rattle.receiver.specs.declared.Receiver.{Receiver}
use Rattle.receiver.specs.declared.Step.{Step}
use Rattle.receiver.specs.declared.Answer.{Answer}
use Rattle.receiver.specs.declared.Answer.TheVariants as answer
use Rattle.receiver.specs.Rules.{pair_bits, lock_of, say_of}
use Rattle.receiver.specs.Answers.{answer_number, bit_number, brings_group, group_of}
use Rattle.receiver.specs.Machine.{shift_of, older_of, newer_of, tried_of, hunt_of, ended_of, follow_of, is_hunting_of, completes_of, step_of}

-- ---- the number of an answer

-- at a block's end nothing is refused
say-number : (done lost : Bool) (group : Group) → answer_number (say_of done lost group) ≡ 0
say-number false false group = refl
say-number false true group = refl
say-number true false group = refl
say-number true true group = refl

tried-number : (window : ℕ) (lock : Option Lock) → answer_number (tried_of window lock).answer ≡ 0
tried-number window (Some lock) = refl
tried-number window None = refl

-- of two steps that refuse nothing either refuses nothing
either_number : (test : Bool) (s t : Step) → answer_number s.answer ≡ 0 → answer_number t.answer ≡ 0
    → answer_number (cond test s t).answer ≡ 0
either_number true s t p q = p
either_number false s t p q = q

hunt-number : (window count bit : ℕ) → answer_number (hunt_of window count bit).answer ≡ 0
unfolding hunt_of
hunt-number window count bit =
    either_number (ltb (count + 1) pair_bits) _ _ refl
    (tried-number (shift_of window bit) (lock_of (older_of (shift_of window bit)) (newer_of (shift_of window bit))))

follow-number : (r : Receiver) (bit : ℕ) → answer_number (follow_of r bit).answer ≡ 0
unfolding follow_of ended_of
follow-number r bit = either_number (ltb (r.count + 1) block_bits) _ _ refl (say-number (completes_of r.place r.held) _ _)

-- 9 exactly if the bit is neither 0 nor 1
pub step-number : (r : Receiver) (bit : ℕ) → answer_number (step_of r bit).answer ≡ bit_number bit
unfolding step_of
step-number r bit = by (ltb 1 bit)
  where
    by : (test : Bool) → answer_number (cond test (record { next = r; answer = answer.Refused })
        (cond (is_hunting_of r.place) (hunt_of r.window r.count bit) (follow_of r bit))).answer ≡ cond test 9 0
    by true = refl
    by false = either_number (is_hunting_of r.place) _ _ (hunt-number r.window r.count bit) (follow-number r bit)

-- a step that is `step_of` has that number
pub step_settled : (s : Step) (r : Receiver) (bit : ℕ) → s ≡ step_of r bit
    → (s ≡ step_of r bit) × (answer_number s.answer ≡ bit_number bit)
step_settled s r bit e = (e, rw e (step-number r bit))

-- ---- the refusal

-- a refused bit is answered 9, and the state comes back as it was
pub refused-same : (r : Receiver) (bit : ℕ) → 1 < bit
    → step_of r bit ≡ record { next = r; answer = answer.Refused }
unfolding step_of
refused-same r bit h = rw (lt-ltb 1 bit h)

pub refused_9 : (r : Receiver) (bit : ℕ) → 1 < bit → answer_number (step_of r bit).answer ≡ 9
refused_9 r bit h = step-number r bit ∙ rw (lt-ltb 1 bit h)

-- and only such a bit is
pub only-refused_9 : (r : Receiver) (bit : ℕ) → answer_number (step_of r bit).answer ≡ 9 → 1 < bit
only-refused_9 r bit h = by (ltb 1 bit) refl
  where
    by : (test : Bool) → ltb 1 bit ≡ test → 1 < bit
    by true e = ltb-true 1 bit e
    by false e = let n : bit_number bit ≡ 0 = rw e in omega (arith, sym (step-number r bit) ∙ h, n)

-- ---- the group of an answer

-- an answer that brings none has the empty one
pub none-brought : (said : Answer) → brings_group said ≡ false → group_of said ≡ empty_of
none-brought answer.Nothing e = refl
none-brought answer.Locked e = refl
none-brought (answer.Group group) e = absurd (true≢false e)
none-brought answer.Lost e = refl
none-brought (answer.GroupAndLost group) e = absurd (true≢false e)
none-brought answer.Refused e = refl

-- where no group is answered it is the empty one
pub no-group-empty : (r : Receiver) (bit : ℕ) → brings_group (step_of r bit).answer ≡ false
    → group_of (step_of r bit).answer ≡ empty_of
no-group-empty r bit = none-brought (step_of r bit).answer
