-- From answer to answer is bit by bit: where the receiver advances over bits that answer nothing, neither the record nor
-- the counts change; and it moves on.
use Rattle.std.proofs.Common.{◌≡◌, ℕ, zero, suc, ◌+◌, ◌-◌, ◌*◌, ◌/◌, ◌%◌, ◌<◌, ◌≤◌, Bool, true, false, List, length, refl, ap, ◌∙◌, arith}
use mathlib.Core.Bool.{false≢true}
use Rattle.bits.specs.Bytes.{bit_at}
use Rattle.groups.specs.Group.{empty_of, counts_of, is_all_good_of, good_of}
use Rattle.receiver.specs.declared.Answer.{Answer}
use Rattle.receiver.specs.declared.Answer.TheVariants as answer
use Rattle.receiver.specs.declared.Receiver.{Receiver}
use Rattle.receiver.specs.declared.Step.{Step}
use Rattle.receiver.specs.declared.Advanced.{Advanced}
use Rattle.receiver.specs.Answers.{brings_group}
use Rattle.receiver.specs.Machine.{step_of}
use Rattle.receiver.specs.Feeding.{byte_bits, is_nothing_of, stopped_of, advance_of}
use Rattle.receiver.proofs.Refusal.{no-group-empty}
use Rattle.receiver.proofs.Feeds.{advance-end, feed-one, then_on, then_stop}
use Rattle.station.specs.declared.Record.{Record}
use Rattle.station.specs.Update.{updated_of}
use Rattle.station.proofs.Holding.{updated_kept}
use Rattle.counts.specs.declared.Counts.{Counts}
use Rattle.counts.specs.Counts.{counted_of}
use Rattle.recording.specs.declared.Ear.{Ear}
use Rattle.recording.specs.Ear.{heard_of, took_of, took_from, hear_of}

-- ---- nothing answered, nothing changed

empty-counts : counts_of empty_of ≡ false
unfolding counts_of is_all_good_of good_of
empty-counts = refl

empty_kept : (station : Record) → updated_of station empty_of ≡ station
empty_kept station = updated_kept station empty_of empty-counts

nothing_kept : (counts : Counts) (said : Answer) → is_nothing_of said ≡ true → counted_of counts said ≡ counts
nothing_kept counts answer.Nothing e = refl
nothing_kept counts answer.Locked e = absurd (false≢true e)
nothing_kept counts (answer.Group group) e = absurd (false≢true e)
nothing_kept counts answer.Lost e = absurd (false≢true e)
nothing_kept counts (answer.GroupAndLost group) e = absurd (false≢true e)
nothing_kept counts answer.Refused e = absurd (false≢true e)

nothing-brings : (said : Answer) → is_nothing_of said ≡ true → brings_group said ≡ false
nothing-brings answer.Nothing e = refl
nothing-brings answer.Locked e = refl
nothing-brings (answer.Group group) e = absurd (false≢true e)
nothing-brings answer.Lost e = refl
nothing-brings (answer.GroupAndLost group) e = absurd (false≢true e)
nothing-brings answer.Refused e = refl

-- an ear that goes on with another state of its receiver
abbrev with_receiver : Ear → Receiver → Ear
with_receiver ear r = record { receiver = r; station = ear.station; counts = ear.counts }

-- a bit that answers nothing
took_nothing : (ear : Ear) (bit : ℕ) → is_nothing_of (step_of ear.receiver bit).answer ≡ true
    → took_of ear bit ≡ with_receiver ear (step_of ear.receiver bit).next
took_nothing ear bit e =
    let none = no-group-empty ear.receiver bit (nothing-brings (step_of ear.receiver bit).answer e) in
    rw (
      nothing_kept ear.counts (step_of ear.receiver bit).answer e,
      none,
      empty_kept ear.station,
    )

-- ---- from a place on

-- the number of the bit at a place
abbrev pub at : ℕ → ℕ → ℕ
at byte bit = byte_bits * byte + bit

-- what is heard from a place on
abbrev pub rest : Ear → List ℕ → ℕ → ℕ → Ear
rest ear s byte bit = took_from ear s (at byte bit) (byte_bits * length s - at byte bit)

-- advancing from a place leads to another, from which the rest is heard
pub record Led (ear : Ear) (s : List ℕ) (byte bit : ℕ) (t : Advanced) : Type 0 where
  pub same : rest ear s byte bit ≡ rest (heard_of ear t) s t.byte t.bit
  pub moved : at byte bit ≤ at t.byte t.bit
  pub within : t.bit < byte_bits

-- at the end there is nothing to hear
led-end : (ear : Ear) (s : List ℕ) (byte bit : ℕ) → bit < byte_bits → length s ≤ byte
    → Led ear s byte bit (advance_of ear.receiver s byte bit)
led-end ear s byte bit b e =
    rw (advance-end ear.receiver s byte bit b e)
    (record { same = rw (empty_kept ear.station); moved = omega arith; within = b })

-- one bit more of what is left
rest_more : (ear : Ear) (s : List ℕ) (byte bit next inside : ℕ) → byte < length s → bit < byte_bits
    → at next inside ≡ at byte bit + 1
    → rest ear s byte bit ≡ rest (took_of ear (bit_at s (at byte bit))) s next inside
unfolding took_from
rest_more ear s byte bit next inside h b e =
    let n : byte_bits * length s - at byte bit ≡ suc (byte_bits * length s - at next inside) = omega arith in
    rw (n, e)

-- one bit, and then the rest: by whether it answers nothing
led-bit : (quiet : Bool) (ear : Ear) (s : List ℕ) (byte bit next inside : ℕ) → byte < length s → bit < byte_bits
    → at next inside ≡ at byte bit + 1 → inside < byte_bits
    → is_nothing_of (step_of ear.receiver (bit_at s (at byte bit))).answer ≡ quiet
    → Led (with_receiver ear (step_of ear.receiver (bit_at s (at byte bit))).next) s next inside
    (advance_of (step_of ear.receiver (bit_at s (at byte bit))).next s next inside)
    → Led ear s byte bit (advance_of ear.receiver s byte bit)
    × (at byte bit < at (advance_of ear.receiver s byte bit).byte (advance_of ear.receiver s byte bit).bit)
led-bit true ear s byte bit next inside h b place small e on =
    let st : Step = step_of ear.receiver (bit_at s (at byte bit)) in
    let whole : advance_of ear.receiver s byte bit ≡ advance_of st.next s next inside =
    feed-one ear.receiver s byte bit next inside h b place small ∙ then_on (stopped_of st next inside) s e in
    let kept = took_nothing ear (bit_at s (at byte bit)) e in
    let moved = on.moved in
    let all = rest_more ear s byte bit next inside h b place ∙ ap (λ (now : Ear). rest now s next inside) kept
    ∙ on.same in
    rw whole (record { same = all; moved = omega arith; within = on.within }, omega arith)
led-bit false ear s byte bit next inside h b place small e on =
    let st : Step = step_of ear.receiver (bit_at s (at byte bit)) in
    let whole : advance_of ear.receiver s byte bit ≡ stopped_of st next inside =
    feed-one ear.receiver s byte bit next inside h b place small ∙ then_stop (stopped_of st next inside) s e in
    let all = rest_more ear s byte bit next inside h b place in
    rw whole (record { same = all; moved = omega arith; within = small }, omega arith)

-- the place after the next bit
module _ (byte bit : ℕ) where
  abbrev next_byte : ℕ
  next_byte = (at byte bit + 1) / byte_bits

  abbrev next_bit : ℕ
  next_bit = (at byte bit + 1) % byte_bits

  next_place : at next_byte next_bit ≡ at byte bit + 1
  next_place = omega arith

  next_small : next_bit < byte_bits
  next_small = omega arith

-- by the number of bits that are left
led : (n : ℕ) (ear : Ear) (s : List ℕ) (byte bit : ℕ) → bit < byte_bits → byte_bits * length s - at byte bit ≡ n
    → Led ear s byte bit (advance_of ear.receiver s byte bit)
led zero ear s byte bit b e = led-end ear s byte bit b (omega arith)
led (suc n) ear s byte bit b e =
    (led-bit (is_nothing_of (step_of ear.receiver (bit_at s (at byte bit))).answer) ear s byte bit (next_byte byte bit)
    (next_bit byte bit) (omega arith) b (next_place byte bit) (next_small byte bit) refl
    (led n (with_receiver ear (step_of ear.receiver (bit_at s (at byte bit))).next) s (next_byte byte bit)
    (next_bit byte bit) (next_small byte bit) (omega (arith, next_place byte bit)))).0

-- ---- a piece, from answer to answer

module _ (ear : Ear) (s : List ℕ) where
  pub hear_first : hear_of ear s ≡ rest ear s 0 0
  unfolding hear_of
  hear_first = let e : byte_bits * length s - at 0 0 ≡ byte_bits * length s = omega arith in rw e

  pub hear_next : (byte bit : ℕ) (t : Advanced) (next : Ear) → byte < length s → bit < byte_bits
      → t ≡ advance_of ear.receiver s byte bit → next ≡ heard_of ear t
      → (rest ear s byte bit ≡ rest next s t.byte t.bit) × (at byte bit < at t.byte t.bit)
      × (t.bit < byte_bits)
  hear_next byte bit t next h b e f =
      let on = led-bit (is_nothing_of (step_of ear.receiver (bit_at s (at byte bit))).answer) ear s byte bit
      (next_byte byte bit) (next_bit byte bit) h b (next_place byte bit) (next_small byte bit) refl
      (led (byte_bits * length s - at (next_byte byte bit) (next_bit byte bit))
      (with_receiver ear (step_of ear.receiver (bit_at s (at byte bit))).next) s (next_byte byte bit)
      (next_bit byte bit) (next_small byte bit) refl) in
      rw (f, e) (on.0.same, on.1, on.0.within)

  pub hear_last : (byte bit : ℕ) → length s ≤ byte → rest ear s byte bit ≡ ear
  unfolding took_from
  hear_last byte bit h = let e : byte_bits * length s - at byte bit ≡ 0 = omega arith in rw e
