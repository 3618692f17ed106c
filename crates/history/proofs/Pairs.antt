-- A first pair that locks: 51 times nothing is answered, then locked, whatever follows. So a stream whose first 52 bits
-- are a true A and B locks on them.
use Prim.Native.Nat.{ℕ, zero, suc, ◌+◌, ◌-◌, ◌<◌, ◌≤◌}
use mathlib.Core.Path.{◌≡◌, refl, ap, ◌∙◌}
use mathlib.Core.List.{List, []}
use mathlib.Core.Bool.{cond}
use mathlib.Core.Logic.{⊎_elim}
use native.Mathlib.Nat.{eq-or-lt_of_le, add-zero, zero-add}
use native.Mathlib.Omega.{arith}
use lib.Dec.{eqb}
use lib.ListN.{length, take}
use borrow.Author.Tests.{le-ltb, ne_eqb}
use Rattle.bits.specs.Spell.{spell, listed}
use Rattle.blocks.specs.Block.{word_of, limit, Valid}
use Rattle.blocks.specs.declared.Kind.{Kind}
use Rattle.blocks.specs.declared.Kind.TheVariants.{A, B}
use Rattle.blocks.proofs.Reading.{read-valid, judge-valid}
use Rattle.receiver.specs.declared.Answer.TheVariants as answer
use Rattle.receiver.specs.Rules.{pair_bits, follower_of, locking, lock_of}
use Rattle.receiver.specs.Machine.{fresh_of, step_of, fed_of}
use Rattle.history.specs.Locked.{block_of}
use Rattle.history.specs.Heard.{Heard, hunting, locked, silent_in, hunted_on, heard_in, phase_after, heard}
use Rattle.history.specs.Streams.{bits_from}
use Rattle.history.proofs.Growing.{enough_true, enough_false}
use Rattle.history.proofs.Agrees.{receiver_agrees}
use Rattle.history.proofs.Feeding.{length_from, take_from, spell-fed, spell_few, phase-more}

-- two blocks that follow each other lock
pub lock-valid : (older newer : ℕ) (kind : Kind) → older < limit → newer < limit → Valid kind older
    → Valid (follower_of kind (word_of older)) newer → lock_of older newer ≡ locking kind (word_of older) (word_of newer)
unfolding lock_of
lock-valid older newer kind h l v w =
    rw (read-valid older kind h v, judge-valid newer (follower_of kind (word_of older)) l w)

-- the first 52 bits, where they lock
pair-locked : (bits : List ℕ) (kind : Kind) (word next : ℕ) → length bits ≡ 52
    → lock_of (block_of bits 0) (block_of bits 1) ≡ locking kind word next
    → hunted_on bits ≡ record { phase = locked kind bits; answer = answer.Locked }
unfolding hunted_on
pair-locked bits kind word next long e =
    let none : length bits - 52 ≡ 0 = omega arith in rw (enough_true bits (omega arith), none, e) (rw none)

-- ---- hunting from the first bit of a source on

module _ (f : ℕ → ℕ) (i : ℕ) (small : (j : ℕ) → j < 52 → f (i + j) < 2) where
  one_more : (n : ℕ) → n < 52 → heard_in (hunting (bits_from f i n)) (f (i + n)) ≡ hunted_on (bits_from f i (suc n))
  unfolding heard_in bits_from
  one_more n h = rw (le-ltb 1 (f (i + n)) (omega (arith, small n h)))

  -- fewer than 52 bits: nothing
  pub hunts_on : (n : ℕ) → n + 1 < 52
      → heard_in (hunting (bits_from f i n)) (f (i + n)) ≡ silent_in (hunting (bits_from f i (suc n)))
  unfolding hunted_on
  hunts_on n h =
      let few : length (bits_from f i (suc n)) < 52 = rw (length_from f i (suc n)) (omega arith) in
      one_more n (omega arith) ∙ rw (enough_false (bits_from f i (suc n)) few)

  pub hunting_after : (n : ℕ) → n < 52 → phase_after (hunting []) (bits_from f i n) ≡ hunting (bits_from f i n)
  unfolding bits_from phase_after
  hunting_after zero h = refl
  hunting_after (suc n) h =
      phase-more (hunting []) (bits_from f i n) (f (i + n))
      ∙ rw (hunting_after n (omega arith), hunts_on n (omega arith))

  -- the 52nd bit, where the pair locks
  pub locks_on : (kind : Kind) (word next : ℕ) → lock_of (spell f i 26) (spell f (i + 26) 26) ≡ locking kind word next
      → heard_in (hunting (bits_from f i 51)) (f (i + 51))
      ≡ record { phase = locked kind (bits_from f i 52); answer = answer.Locked }
  locks_on kind word next e =
      one_more 51 (omega arith)
      ∙ pair-locked (bits_from f i 52) kind word next (length_from f i 52)
      (rw (spell-fed f i 52 0 26 (omega arith), spell-fed f i 52 26 26 (omega arith), add-zero i) e)

-- ---- the law

module _ (bits : List ℕ) (long : pair_bits ≤ length bits) (small : (i : ℕ) → i < pair_bits → listed bits i < 2) where
  from_start : (i : ℕ) → i < 52 → listed bits (0 + i) < 2
  from_start i h = rw (zero-add i) (small i h)

  -- they lock
  pair-locks : Valid A (block_of bits 0) → Valid B (block_of bits 1)
      → lock_of (block_of bits 0) (block_of bits 1) ≡ locking A (word_of (block_of bits 0)) (word_of (block_of bits 1))
  pair-locks first second =
      lock-valid (block_of bits 0) (block_of bits 1) A
      (spell_few (listed bits) 0 26 (λ j _ l. small j (omega arith)))
      (spell_few (listed bits) 26 26 (λ j _ l. small j (omega arith)))
      first second

  heard-first : (i : ℕ) → i < 52
      → heard (take i bits) (listed bits i) ≡ heard_in (hunting (bits_from (listed bits) 0 i)) (listed bits i)
  unfolding heard
  heard-first i h = rw (take_from bits i (omega arith), hunting_after (listed bits) 0 from_start i h)

  -- for any list whose first 52 numbers are bits and are valid as A and as B: 51 times nothing, then locked
  pub true_pair_locks : Valid A (block_of bits 0) → Valid B (block_of bits 1) → (i : ℕ) → i < pair_bits
      → (step_of (fed_of fresh_of (take i bits)) (listed bits i)).answer
      ≡ cond (eqb (i + 1) pair_bits) answer.Locked answer.Nothing
  true_pair_locks first second i h =
      (receiver_agrees (take i bits) (listed bits i)).0
      ∙ ap (λ (t : Heard). t.answer) (heard-first i h)
      ∙ ⊎_elim last before (eq-or-lt_of_le {n = i} {m = 51} (omega arith))
    where
      last : i ≡ 51 → (heard_in (hunting (bits_from (listed bits) 0 i)) (listed bits i)).answer
          ≡ cond (eqb (i + 1) pair_bits) answer.Locked answer.Nothing
      last e =
          let lock = pair-locks first second in
          rw (e, locks_on (listed bits) 0 from_start A (word_of (block_of bits 0)) (word_of (block_of bits 1)) lock)

      before : i < 51 → (heard_in (hunting (bits_from (listed bits) 0 i)) (listed bits i)).answer
          ≡ cond (eqb (i + 1) pair_bits) answer.Locked answer.Nothing
      before l =
          rw (rw (zero-add i) at (hunts_on (listed bits) 0 from_start i (omega arith)), ne_eqb (i + 1) 52 (omega arith))
