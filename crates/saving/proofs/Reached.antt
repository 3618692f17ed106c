-- States reached from the fresh one: their numbers are small and their group in hand is made of judged blocks.
use Prim.Native.Nat.{ℕ, zero, suc, ◌+◌, ◌^◌, ◌<◌, ◌≤◌}
use mathlib.Core.Path.{◌≡◌, refl, ap}
use mathlib.Core.List.{List, [], ◌∷◌}
use mathlib.Core.Bool.{Bool, true, false, cond}
use lib.Dec.{ltb}
use native.Mathlib.Omega.{arith}
use borrow.Author.Tests.{ltb-true, ltb-false, le-leb}
use Rattle.blocks.specs.Block.{Found, Judged, read_of, judge_of}
use Rattle.blocks.specs.Damage.{block_bits}
use Rattle.blocks.specs.declared.Kind.{Kind}
use Rattle.blocks.specs.declared.Kind.TheVariants.{A, B, C, CPrime, D}
use Rattle.std.specs.Prelude.{Ok, Err, Option, Some, None}
use Rattle.blocks.specs.declared.BlockError.TheVariants.{Bad}
use Rattle.blocks.proofs.Reading.{found-valid, judged-valid}
use Rattle.groups.specs.declared.Group.{Group}
use Rattle.groups.specs.Group.{places, empty_of, with_block_of, judged_word}
use Rattle.receiver.specs.declared.Place.{Place}
use Rattle.receiver.specs.declared.Place.TheVariants.{Hunting, First, Second, Fourth}
use Rattle.receiver.specs.declared.Place.TheVariants.{ThirdC, ThirdCPrime, ThirdBad}
use Rattle.receiver.specs.declared.Lock.{Lock}
use Rattle.receiver.specs.declared.Receiver.{Receiver}
use Rattle.receiver.specs.declared.Step.{Step}
use Rattle.receiver.specs.Rules.{pair_bits, run_blocks, follower_of, joined_of, pair_of, lock_of, is_bad_of, loses_of}
use Rattle.receiver.specs.Machine.{shift_of, newer_of, older_of, fresh_of, begin_of, third_place_of, locked_of, index_of}
use Rattle.receiver.specs.Machine.{judge_at_of, after_of, held_of, hand_of, is_hunting_of, bad_with_of, counted_of, tried_of}
use Rattle.receiver.specs.Machine.{hunt_of, ended_of, end_of, follow_of, step_of, fed_of}

-- ---- words fit 16 bits

-- the word of a judged block fits
abbrev pub Fits : Judged → Type 0
Fits judged = judged_word judged < 65536

judged_fits : (judged : Judged) (bits : ℕ) (kind : Kind) → judge_of bits kind ≡ judged → Fits judged
judged_fits (Ok word) bits kind e = let v = judged-valid bits word kind e in omega (arith, v.0, v.2)
judged_fits (Err error) bits kind e = omega arith

judge_fits : (bits : ℕ) (kind : Kind) → Fits (judge_of bits kind)
judge_fits bits kind = judged_fits (judge_of bits kind) bits kind refl

judge-at_fits : (place : Place) (bits : ℕ) → Fits (judge_at_of place bits)
judge-at_fits Hunting bits = omega arith
judge-at_fits First bits = judge_fits bits A
judge-at_fits Second bits = judge_fits bits B
judge-at_fits ThirdC bits = judge_fits bits C
judge-at_fits ThirdCPrime bits = judge_fits bits CPrime
judge-at_fits ThirdBad bits = omega arith
judge-at_fits Fourth bits = judge_fits bits D

-- both words of a lock fit
abbrev LockFits : Option Lock → Type 0
LockFits (Some lock) = (lock.older < 65536) × (lock.newer < 65536)
LockFits None = Unit {0}

joined_fits : (kind : Kind) (older : ℕ) (judged : Judged) → older < 65536 → Fits judged → LockFits (joined_of kind older judged)
joined_fits kind older (Ok newer) o n = (o, n)
joined_fits kind older (Err error) o n = tt

pair_fits : (found : Found) (older newer : ℕ) → read_of older ≡ found → LockFits (pair_of found newer)
pair_fits (Ok (Some block)) older newer e =
    let v = found-valid older block.word block.kind e in
    joined_fits block.kind block.word (judge_of newer (follower_of block.kind block.word))
    (omega (arith, v.0, v.2)) (judge_fits newer (follower_of block.kind block.word))
pair_fits (Ok None) older newer e = tt
pair_fits (Err too_long) older newer e = tt

lock_fits : (older newer : ℕ) → LockFits (lock_of older newer)
unfolding lock_of
lock_fits older newer = pair_fits (read_of older) older newer refl

-- ---- groups in hand are made of judged blocks

-- four judged blocks as a group
abbrev pub made_of : Judged → Judged → Judged → Judged → Group
made_of a b c d = with_block_of (with_block_of (with_block_of (with_block_of empty_of 0 a) 1 b) 2 c) 3 d

pub record Made (hand : Group) : Type 0 where
  pub a : Judged
  pub b : Judged
  pub c : Judged
  pub d : Judged
  pub is : hand ≡ made_of a b c d
  pub fits_a : Fits a
  pub fits_b : Fits b
  pub fits_c : Fits c
  pub fits_d : Fits d

made-empty : Made empty_of
unfolding with_block_of
made-empty =
    record
    { a = Err Bad; b = Err Bad; c = Err Bad; d = Err Bad; is = refl; fits_a = omega arith; fits_b = omega arith; fits_c = omega arith; fits_d = omega arith }

made_with : (hand : Group) (i : ℕ) (judged : Judged) → Made hand → Fits judged → Made (with_block_of hand i judged)
unfolding with_block_of
made_with hand zero judged m f =
    record {
      a = judged;
      b = m.b;
      c = m.c;
      d = m.d;
      is = ap (λ (g : Group). with_block_of g 0 judged) m.is;
      fits_a = f;
      fits_b = m.fits_b;
      fits_c = m.fits_c;
      fits_d = m.fits_d;
    }
made_with hand (suc zero) judged m f =
    record {
      a = m.a;
      b = judged;
      c = m.c;
      d = m.d;
      is = ap (λ (g : Group). with_block_of g 1 judged) m.is;
      fits_a = m.fits_a;
      fits_b = f;
      fits_c = m.fits_c;
      fits_d = m.fits_d;
    }
made_with hand (suc (suc zero)) judged m f =
    record {
      a = m.a;
      b = m.b;
      c = judged;
      d = m.d;
      is = ap (λ (g : Group). with_block_of g 2 judged) m.is;
      fits_a = m.fits_a;
      fits_b = m.fits_b;
      fits_c = f;
      fits_d = m.fits_d;
    }
made_with hand (suc (suc (suc zero))) judged m f =
    record {
      a = m.a;
      b = m.b;
      c = m.c;
      d = judged;
      is = ap (λ (g : Group). with_block_of g 3 judged) m.is;
      fits_a = m.fits_a;
      fits_b = m.fits_b;
      fits_c = m.fits_c;
      fits_d = f;
    }
made_with hand (suc (suc (suc (suc i)))) judged m f = rw (le-leb places (suc (suc (suc (suc i)))) (omega arith)) m

-- ---- states

-- its numbers fit their bytes, and the group in hand is made
pub record Sound (r : Receiver) : Type 0 where
  pub window : r.window < 2 ^ 64
  pub count : r.count < 256
  pub run : r.run < 256
  pub bad : r.bad < 256
  pub hand : Made r.hand

pub fresh_sound : Sound fresh_of
fresh_sound = record { window = omega arith; count = omega arith; run = omega arith; bad = omega arith; hand = made-empty }

begin_sound : (place : Place) (held : Bool) (hand : Group) (run bad : ℕ) → Made hand → run < 256 → bad < 256
    → Sound (begin_of place held hand run bad)
begin_sound place held hand run bad m r b =
    record { window = omega arith; count = omega arith; run = r; bad = b; hand = m }

locked_sound : (kind : Kind) (older newer : ℕ) → older < 65536 → newer < 65536 → Sound (locked_of kind older newer)
locked_sound A older newer o n =
    begin_sound (third_place_of (Ok newer)) true _ 0 0
    (made_with (with_block_of empty_of 0 (Ok older)) 1 (Ok newer) (made_with empty_of 0 (Ok older) made-empty o) n)
    (omega arith) (omega arith)
locked_sound B older newer o n = begin_sound Fourth false empty_of 0 0 made-empty (omega arith) (omega arith)
locked_sound C older newer o n = begin_sound First true empty_of 0 0 made-empty (omega arith) (omega arith)
locked_sound CPrime older newer o n = begin_sound First true empty_of 0 0 made-empty (omega arith) (omega arith)
locked_sound D older newer o n =
    begin_sound Second true _ 0 0 (made_with empty_of 0 (Ok newer) made-empty n) (omega arith) (omega arith)

shift-lt : (window bit : ℕ) → bit ≤ 1 → shift_of window bit < 2 ^ 64
shift-lt window bit h = omega arith

hunting_sound : (window count : ℕ) → window < 2 ^ 64 → count < 256
    → Sound (record { window = window; count = count; place = Hunting; held = false; hand = empty_of; run = 0; bad = 0 })
hunting_sound window count w c =
    record { window = w; count = c; run = omega arith; bad = omega arith; hand = made-empty }

tried_sound : (window : ℕ) (lock : Option Lock) → window < 2 ^ 64 → LockFits lock → Sound (tried_of window lock).next
tried_sound window (Some lock) w f = locked_sound lock.kind lock.older lock.newer f.0 f.1
tried_sound window None w f = hunting_sound window pair_bits w (omega arith)

hunt_sound : (window count bit : ℕ) → bit ≤ 1 → Sound (hunt_of window count bit).next
unfolding hunt_of
hunt_sound window count bit h = by (ltb (count + 1) pair_bits) refl
  where
    by : (test : Bool) → ltb (count + 1) pair_bits ≡ test → Sound (hunt_of window count bit).next
    by true e = rw e (hunting_sound (shift_of window bit) (count + 1) (shift-lt window bit h)
        (omega (arith, ltb-true (count + 1) pair_bits e)))
    by false e =
        rw e (tried_sound (shift_of window bit) (lock_of (older_of (shift_of window bit)) (newer_of (shift_of window bit)))
        (shift-lt window bit h) (lock_fits (older_of (shift_of window bit)) (newer_of (shift_of window bit))))

bad_with-lt : (bad : ℕ) (judged : Judged) → bad < 256 → bad_with_of bad judged < 256
bad_with-lt bad judged h = by (is_bad_of judged) (ltb bad run_blocks) refl
  where
    by : (test full : Bool) → ltb bad run_blocks ≡ full → cond test (cond full (bad + 1) bad) bad < 256
    by true true e = omega (arith, ltb-true bad run_blocks e)
    by true false e = h
    by false full e = h

-- the group that stays in hand
hand-made : (place : Place) (hand : Group) → Made hand → Made (hand_of place hand)
hand-made Hunting hand m = m
hand-made First hand m = m
hand-made Second hand m = m
hand-made ThirdC hand m = m
hand-made ThirdCPrime hand m = m
hand-made ThirdBad hand m = m
hand-made Fourth hand m = made-empty

end_sound : (r : Receiver) (judged : Judged) → Sound r → Fits judged → Sound (end_of r judged).next
unfolding ended_of counted_of
end_sound r judged s f = by (ltb (r.run + 1) run_blocks) refl
  where
    on : (run bad : ℕ) → run < 256 → bad < 256
        → Sound (begin_of (after_of r.place judged) (held_of r.place r.held)
        (hand_of r.place (with_block_of r.hand (index_of r.place) judged)) run bad)
    on run bad p q =
        begin_sound _ _ _ run bad (hand-made r.place _ (made_with r.hand (index_of r.place) judged s.hand f)) p q

    by : (test : Bool) → ltb (r.run + 1) run_blocks ≡ test → Sound (end_of r judged).next
    by true e = rw e (on (r.run + 1) (bad_with_of r.bad judged) (omega (arith, ltb-true (r.run + 1) run_blocks e))
        (bad_with-lt r.bad judged s.bad))
    by false e = rw e (lost (loses_of (bad_with_of r.bad judged)))
      where
        lost : (test : Bool) → Sound (cond test fresh_of (begin_of (after_of r.place judged) (held_of r.place r.held)
            (hand_of r.place (with_block_of r.hand (index_of r.place) judged)) 0 0))
        lost true = fresh_sound
        lost false = on 0 0 (omega arith) (omega arith)

follow_sound : (r : Receiver) (bit : ℕ) → bit ≤ 1 → Sound r → Sound (follow_of r bit).next
unfolding follow_of
follow_sound r bit h s = by (ltb (r.count + 1) block_bits) refl
  where
    by : (test : Bool) → ltb (r.count + 1) block_bits ≡ test → Sound (follow_of r bit).next
    by true e = rw e (record {
      window = shift-lt r.window bit h;
      count = omega (arith, ltb-true (r.count + 1) block_bits e);
      run = s.run;
      bad = s.bad;
      hand = s.hand;
    })
    by false e = rw e (end_sound r _ s (judge-at_fits r.place (newer_of (shift_of r.window bit))))

-- one bit keeps it
pub step_sound : (r : Receiver) (bit : ℕ) → Sound r → Sound (step_of r bit).next
unfolding step_of
step_sound r bit s = by (ltb 1 bit) refl
  where
    either : (test : Bool) (x y : Step) → Sound x.next → Sound y.next → Sound (cond test x y).next
    either true x y p q = p
    either false x y p q = q

    by : (test : Bool) → ltb 1 bit ≡ test → Sound (step_of r bit).next
    by true e = rw e s
    by false e = rw e (either (is_hunting_of r.place) _ _
        (hunt_sound r.window r.count bit (ltb-false 1 bit e)) (follow_sound r bit (ltb-false 1 bit e) s))

fed_on_sound : (r : Receiver) (bits : List ℕ) → Sound r → Sound (fed_of r bits)
unfolding fed_of
fed_on_sound r [] s = s
fed_on_sound r (bit ∷ bits) s = fed_on_sound (step_of r bit).next bits (step_sound r bit s)

-- so every state reached is so
pub fed_sound : (bits : List ℕ) → Sound (fed_of fresh_of bits)
fed_sound bits = fed_on_sound fresh_of bits fresh_sound
