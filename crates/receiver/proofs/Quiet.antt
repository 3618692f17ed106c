-- Laws of quiet bits: bits that lock nothing and end no block are answered nothing, and only the window and the count move.
use Prim.Native.Nat.{ℕ, ◌+◌, ◌*◌, ◌/◌, ◌%◌, ◌<◌}
use mathlib.Core.Path.{◌≡◌, refl, sym, ap, ◌∙◌}
use mathlib.Core.List.{List}
use mathlib.Core.Bool.{Bool, true, false, cond, true≢false}
use lib.Dec.{ltb}
use lib.ListN.{length}
use native.Mathlib.Omega.{arith}
use borrow.Author.Tests.{lt-ltb, le-ltb}
use Rattle.blocks.specs.Damage.{block_bits}
use Rattle.bits.specs.Bytes.{bit_at}
use Rattle.bits.proofs.ByteBits.{bit_at_lt}
use Rattle.receiver.specs.declared.Lock.{Lock}
use Rattle.std.specs.Prelude.{is_some, Option, Some, None}
use Rattle.receiver.specs.declared.Receiver.{Receiver}
use Rattle.receiver.specs.declared.Step.{Step}
use Rattle.receiver.specs.Rules.{pair_bits, lock_of}
use Rattle.receiver.specs.Machine.{shift_of, newer_of, older_of, hunting_of, is_hunting_of, silent_of, tried_of, hunt_of}
use Rattle.receiver.specs.Machine.{inside_of, follow_of, step_of}
use Rattle.receiver.specs.Feeding.{byte_bits, stopped_of, advance_of}
use Rattle.receiver.specs.Strides.{window_limit, lock_after_of, count_after_of, hunted_of, lock_answer_of}
use Rattle.receiver.specs.Strides.{taken_in_of, then_of}
use Rattle.receiver.proofs.Feeds.{feed-one}

-- ---- one step

-- a window has 52 bits
pub shift-limit : (window bit : ℕ) → bit < 2 → shift_of window bit < window_limit
shift-limit window bit h = omega arith

tried_parts : (window : ℕ) (lock : Option Lock)
    → tried_of window lock ≡ record { next = hunted_of lock window pair_bits; answer = lock_answer_of lock }
tried_parts window (Some lock) = refl
tried_parts window None = refl

-- a hunting bit, from its parts
pub hunt_parts : (window count bit : ℕ) → hunt_of window count bit
    ≡ record {
      next = hunted_of (lock_after_of (shift_of window bit) count) (shift_of window bit) (count_after_of count);
      answer = lock_answer_of (lock_after_of (shift_of window bit) count);
    }
unfolding hunt_of lock_after_of count_after_of
hunt_parts window count bit =
    by (ltb (count + 1) pair_bits) (lock_of (older_of (shift_of window bit)) (newer_of (shift_of window bit)))
  where
    by : (test : Bool) (lock : Option Lock)
        → cond test (silent_of (hunting_of (shift_of window bit) (count + 1))) (tried_of (shift_of window bit) lock)
        ≡ record {
          next = hunted_of (cond test None lock) (shift_of window bit) (cond test (count + 1) pair_bits);
          answer = lock_answer_of (cond test None lock);
        }
    by true lock = refl
    by false lock = tried_parts (shift_of window bit) lock

no-lock : (lock : Option Lock) → is_some lock ≡ false → lock ≡ None
no-lock (Some lock) e = absurd (true≢false e)
no-lock None e = refl

-- a hunting bit that locks nothing
hunt-none : (window count bit : ℕ) → is_some (lock_after_of (shift_of window bit) count) ≡ false
    → hunt_of window count bit ≡ silent_of (hunting_of (shift_of window bit) (count_after_of count))
hunt-none window count bit e =
    hunt_parts window count bit ∙ rw (no-lock (lock_after_of (shift_of window bit) count) e)

-- hunting goes by the window and the count alone
hunting-step : (r : Receiver) (bit : ℕ) → bit < 2 → is_hunting_of r.place ≡ true
    → step_of r bit ≡ hunt_of r.window r.count bit
unfolding step_of
hunting-step r bit b h = rw (le-ltb 1 bit (omega arith), h)

-- a bit inside a block
inside_quiet : (r : Receiver) (window count bit : ℕ) → bit < 2 → is_hunting_of r.place ≡ false → count + 1 < block_bits
    → step_of (inside_of r window count) bit ≡ silent_of (inside_of r (shift_of window bit) (count + 1))
unfolding step_of follow_of
inside_quiet r window count bit b h l = rw (le-ltb 1 bit (omega arith), h, lt-ltb (count + 1) block_bits l)

-- ---- bits of bytes

module _ (s : List ℕ) (byte bit byte' bit' : ℕ) (h : byte < length s) (b : bit < byte_bits)
    (e : byte_bits * byte' + bit' ≡ byte_bits * byte + bit + 1) (b' : bit' < byte_bits) where
  -- a bit that is answered nothing
  quiet-bit : (r x : Receiver) → step_of r (bit_at s (byte_bits * byte + bit)) ≡ silent_of x
      → advance_of r s byte bit ≡ advance_of x s byte' bit'
  quiet-bit r x q = feed-one r s byte bit byte' bit' h b e b' ∙ ap (λ (t : Step). then_of (stopped_of t byte' bit') s) q

  pub hunt_bit : (window count : ℕ)
      → is_some (lock_after_of (shift_of window (bit_at s (byte_bits * byte + bit))) count) ≡ false
      → advance_of (hunting_of window count) s byte bit
      ≡ advance_of (hunting_of (shift_of window (bit_at s (byte_bits * byte + bit))) (count_after_of count)) s byte' bit'
  hunt_bit window count q =
      quiet-bit (hunting_of window count) _
      (hunting-step (hunting_of window count) _ (bit_at_lt s (byte_bits * byte + bit)) refl ∙ hunt-none window count _ q)

  pub inside_bit : (r : Receiver) (window count : ℕ) → is_hunting_of r.place ≡ false → count + 1 < block_bits
      → advance_of (inside_of r window count) s byte bit
      ≡ advance_of (inside_of r (shift_of window (bit_at s (byte_bits * byte + bit))) (count + 1)) s byte' bit'
  inside_bit r window count p l =
      quiet-bit (inside_of r window count) _ (inside_quiet r window count _ (bit_at_lt s (byte_bits * byte + bit)) p l)

-- ---- a state and its window and count

-- where there is a bit to feed, a hunting state is its window and its count
pub hunting_bare : (r : Receiver) (s : List ℕ) (byte bit : ℕ) → byte < length s → bit < byte_bits
    → is_hunting_of r.place ≡ true
    → advance_of r s byte bit ≡ advance_of (hunting_of r.window r.count) s byte bit
hunting_bare r s byte bit h b p =
    let i : ℕ = byte_bits * byte + bit in
    let e : byte_bits * ((i + 1) / byte_bits) + (i + 1) % byte_bits ≡ i + 1 = omega arith in
    let l : (i + 1) % byte_bits < byte_bits = omega arith in
    let q : step_of r (bit_at s i) ≡ step_of (hunting_of r.window r.count) (bit_at s i) =
    hunting-step r (bit_at s i) (bit_at_lt s i) p
    ∙ sym (hunting-step (hunting_of r.window r.count) (bit_at s i) (bit_at_lt s i) refl) in
    feed-one r s byte bit ((i + 1) / byte_bits) ((i + 1) % byte_bits) h b e l
    ∙ ap (λ (t : Step). then_of (stopped_of t ((i + 1) / byte_bits) ((i + 1) % byte_bits)) s) q
    ∙ sym (feed-one (hunting_of r.window r.count) s byte bit ((i + 1) / byte_bits) ((i + 1) % byte_bits) h b e l)

pub taken-hunting : (r : Receiver) (window count : ℕ) → is_hunting_of r.place ≡ true
    → taken_in_of r window count ≡ hunting_of window count
unfolding taken_in_of
taken-hunting r window count p = rw p

pub taken_inside : (r : Receiver) (window count : ℕ) → is_hunting_of r.place ≡ false
    → taken_in_of r window count ≡ inside_of r window count
unfolding taken_in_of
taken_inside r window count p = rw p
