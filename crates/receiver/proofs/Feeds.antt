-- Laws of feeding: where feeding is at a place, the bits that are left are fed; one bit fed, and then the rest, is the whole.
use Prim.Native.Nat.{ℕ, zero, suc, ◌+◌, ◌*◌, ◌-◌, ◌/◌, ◌%◌, ◌<◌, ◌≤◌}
use mathlib.Core.Path.{◌≡◌, refl, sym, ◌∙◌}
use mathlib.Core.List.{List}
use mathlib.Core.Bool.{Bool, true, false, cond, ◌||◌}
use lib.Dec.{leb}
use lib.ListN.{length}
use native.Mathlib.Omega.{arith}
use borrow.Author.Tests.{le-leb, lt-leb, leb-true, le-ltb}
use Rattle.bits.specs.Bytes.{bit_at}
use Rattle.bits.proofs.ByteBits.{bit_at_lt}
use Rattle.receiver.specs.declared.Receiver.{Receiver}
use Rattle.receiver.specs.declared.Step.{Step}
use Rattle.receiver.specs.declared.Advanced.{Advanced}
use Rattle.receiver.specs.Answers.{answer_number}
use Rattle.receiver.specs.Machine.{silent_of, step_of}
use Rattle.receiver.specs.Feeding.{byte_bits, is_nothing_of, stopped_of, feed_of, advance_of}
use Rattle.receiver.specs.Strides.{then_of}
use Rattle.receiver.proofs.Refusal.{step-number}

-- past the end of the bytes nothing is fed
pub advance-end : (r : Receiver) (s : List ℕ) (byte bit : ℕ) → bit < byte_bits → length s ≤ byte
    → advance_of r s byte bit ≡ stopped_of (silent_of r) byte bit
unfolding advance_of
advance-end r s byte bit b e = rw (lt-leb byte_bits bit b, le-leb (length s) byte e)

-- nor at a bit that no byte has
pub advance_no-bit : (r : Receiver) (s : List ℕ) (byte bit : ℕ) → byte_bits ≤ bit
    → advance_of r s byte bit ≡ stopped_of (silent_of r) byte bit
unfolding advance_of
advance_no-bit r s byte bit b = rw (le-leb byte_bits bit b)

-- the bits that are left from a place on
pub advance-feed : (r : Receiver) (s : List ℕ) (byte bit : ℕ) → bit < byte_bits
    → advance_of r s byte bit ≡ feed_of r s (byte_bits * byte + bit) (byte_bits * length s - (byte_bits * byte + bit))
unfolding advance_of feed_of
advance-feed r s byte bit b = by (leb (length s) byte) refl
  where
    by : (test : Bool) → leb (length s) byte ≡ test
        → advance_of r s byte bit ≡ feed_of r s (byte_bits * byte + bit) (byte_bits * length s - (byte_bits * byte + bit))
    by false h = rw (lt-leb byte_bits bit b, h)
    by true h =
        let l : length s ≤ byte = leb-true (length s) byte h in
        let z : byte_bits * length s - (byte_bits * byte + bit) ≡ 0 = omega arith in
        let p : (byte_bits * byte + bit) / byte_bits ≡ byte = omega arith in
        let q : (byte_bits * byte + bit) % byte_bits ≡ bit = omega arith in
        rw (lt-leb byte_bits bit b, h, z, p, q)

-- the bit at a place is fed, and then the rest
pub feed-one : (r : Receiver) (s : List ℕ) (byte bit byte' bit' : ℕ) → byte < length s → bit < byte_bits
    → byte_bits * byte' + bit' ≡ byte_bits * byte + bit + 1 → bit' < byte_bits
    → advance_of r s byte bit ≡ then_of (stopped_of (step_of r (bit_at s (byte_bits * byte + bit))) byte' bit') s
unfolding feed_of
feed-one r s byte bit byte' bit' h b e b' =
    let n : byte_bits * length s - (byte_bits * byte + bit) ≡ suc (byte_bits * length s - (byte_bits * byte' + bit')) = omega arith in
    let p : (byte_bits * byte + bit + 1) / byte_bits ≡ byte' = omega arith in
    let q : (byte_bits * byte + bit + 1) % byte_bits ≡ bit' = omega arith in
    let st : Step = step_of r (bit_at s (byte_bits * byte + bit)) in
    advance-feed r s byte bit b ∙ rw (n, p, q, ← e, advance-feed st.next s byte' bit' b')

-- feeding on after nothing, and stopping after another answer
pub then_on : (t : Advanced) (s : List ℕ) → is_nothing_of t.answer ≡ true
    → then_of t s ≡ advance_of t.next s t.byte t.bit
then_on t s h = rw h

pub then_stop : (t : Advanced) (s : List ℕ) → is_nothing_of t.answer ≡ false → then_of t s ≡ t
then_stop t s h = rw h

-- the bits of bytes are bits, so nothing is refused
feed-number : (n : ℕ) (r : Receiver) (s : List ℕ) (i : ℕ) → answer_number (feed_of r s i n).answer ≡ 0
unfolding feed_of
feed-number zero r s i = refl
feed-number (suc n) r s i = by (is_nothing_of (step_of r (bit_at s i)).answer) (feed-number n (step_of r (bit_at s i)).next s (i + 1))
  where
    by : (test : Bool) → answer_number (feed_of (step_of r (bit_at s i)).next s (i + 1) n).answer ≡ 0
        → answer_number (cond test (feed_of (step_of r (bit_at s i)).next s (i + 1) n)
        (stopped_of (step_of r (bit_at s i)) ((i + 1) / byte_bits) ((i + 1) % byte_bits))).answer ≡ 0
    by true h = h
    by false h = step-number r (bit_at s i) ∙ rw (le-ltb 1 (bit_at s i) (omega (arith, bit_at_lt s i)))

pub advance-number : (r : Receiver) (s : List ℕ) (byte bit : ℕ) → answer_number (advance_of r s byte bit).answer ≡ 0
unfolding advance_of
advance-number r s byte bit = by (leb byte_bits bit || leb (length s) byte)
  where
    by : (test : Bool) → answer_number (cond test (stopped_of (silent_of r) byte bit)
        (feed_of r s (byte_bits * byte + bit) (byte_bits * length s - (byte_bits * byte + bit)))).answer ≡ 0
    by true = refl
    by false = feed-number _ r s _

-- what feeding gives has that number
pub advance_settled : (t : Advanced) (r : Receiver) (s : List ℕ) (byte bit : ℕ) → advance_of r s byte bit ≡ t
    → (t ≡ advance_of r s byte bit) × (answer_number t.answer ≡ 0)
advance_settled t r s byte bit e = (sym e, rw e at (advance-number r s byte bit))
