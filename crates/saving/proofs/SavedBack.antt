-- A state that was saved comes back the same: every state reached from the fresh one, whatever bytes stand behind it.
use Prim.Native.Nat.{ℕ, zero, suc, ◌+◌, ◌*◌, ◌<◌, ◌≤◌}
use mathlib.Core.Path.{◌≡◌, refl, ap, ◌∙◌}
use mathlib.Core.List.{List, [], ◌∷◌, ◌++◌}
use mathlib.Core.Bool.{Bool, true, false, cond}
use lib.Dec.{ltb}
use lib.ListN.{length, get_or, drop}
use native.Mathlib.Omega.{arith}
use borrow.Author.Tests.{le-ltb}
use Rattle.bits.specs.Spell.{spell}
use Rattle.bits.specs.Bytes.{bit_at, bytes_of}
use Rattle.std.specs.Prelude.{Ok, Err}
use Rattle.blocks.specs.Block.{Judged}
use Rattle.blocks.specs.declared.BlockError.TheVariants.{Bad}
use Rattle.groups.specs.declared.Group.{Group}
use Rattle.groups.specs.Group.{with_block_of, word_of, good_of, judged_word, judged_good}
use Rattle.receiver.specs.declared.Place.{Place}
use Rattle.receiver.specs.declared.Place.TheVariants.{Hunting, First, Second, Fourth}
use Rattle.receiver.specs.declared.Place.TheVariants.{ThirdC, ThirdCPrime, ThirdBad}
use Rattle.receiver.specs.declared.Receiver.{Receiver}
use Rattle.receiver.specs.Machine.{fresh_of, fed_of}
use Rattle.receiver.specs.Feeding.{byte_bits}
use Rattle.saving.specs.Saving.{mask_at, words_at, flag_of, place_number_of, state_bytes_of, place_numbered_of}
use Rattle.saving.specs.Saving.{state_length, buffer_of, saved_block_of, saved_hand_of, restore_of}
use Rattle.saving.proofs.Saves.{spell-written}
use Rattle.saving.proofs.Reached.{Made, Sound, fed_sound}

place_back : (place : Place) → place_numbered_of (place_number_of place) ≡ place
place_back Hunting = refl
place_back First = refl
place_back Second = refl
place_back ThirdC = refl
place_back ThirdCPrime = refl
place_back ThirdBad = refl
place_back Fourth = refl

flag_back : (on : Bool) → ltb 0 (flag_of on) ≡ on
flag_back true = refl
flag_back false = refl

-- a block whose mark and word are those of a judged one brings the same word and the same mark
block_back : (judged : Judged) (mark word : ℕ) → mark ≡ flag_of (judged_good judged) → word ≡ judged_word judged
    → (judged_word (cond (ltb 0 mark) (Ok word) (Err Bad)) ≡ judged_word judged)
    × (judged_good (cond (ltb 0 mark) (Ok word) (Err Bad)) ≡ judged_good judged)
block_back (Ok w) mark word m e = (rw (m, e), rw m)
block_back (Err error) mark word m e = (rw m, rw m)

-- the group in hand comes back where its marks and words were read back
module _ (s : List ℕ) (hand : Group) (m : Made hand)
    (mark : (i : ℕ) → i < 4 → get_or s (mask_at + i) 0 ≡ flag_of (good_of hand i))
    (word : (i : ℕ) → i < 4 → spell (bit_at s) (byte_bits * (words_at + 2 * i)) (byte_bits * 2) ≡ word_of hand i) where
  at_back : (i : ℕ) → i < 4 → (judged : Judged) → good_of hand i ≡ judged_good judged → word_of hand i ≡ judged_word judged
      → (judged_word (saved_block_of s i) ≡ judged_word judged) × (judged_good (saved_block_of s i) ≡ judged_good judged)
  at_back i h judged g w =
      block_back judged (get_or s (mask_at + i) 0) (spell (bit_at s) (byte_bits * (words_at + 2 * i)) (byte_bits * 2))
      (mark i h ∙ ap flag_of g) (word i h ∙ w)

  hand-back : saved_hand_of s ≡ hand
  unfolding with_block_of word_of good_of
  hand-back =
      let a = at_back 0 (omega arith) m.a (rw m.is) (rw m.is) in
      let b = at_back 1 (omega arith) m.b (rw m.is) (rw m.is) in
      let c = at_back 2 (omega arith) m.c (rw m.is) (rw m.is) in
      let d = at_back 3 (omega arith) m.d (rw m.is) (rw m.is) in
      rw m.is
      (λ k. record
      { words = a.0 k ∷ b.0 k ∷ c.0 k ∷ d.0 k ∷ []; good = a.1 k ∷ b.1 k ∷ c.1 k ∷ d.1 k ∷ [] })

-- the words of a group that is made fit
made-word-lt : (hand : Group) → Made hand → (i : ℕ) → i < 4 → word_of hand i < 65536
unfolding with_block_of word_of
made-word-lt hand m zero h = rw m.is m.fits_a
made-word-lt hand m (suc zero) h = rw m.is m.fits_b
made-word-lt hand m (suc (suc zero)) h = rw m.is m.fits_c
made-word-lt hand m (suc (suc (suc zero))) h = rw m.is m.fits_d
made-word-lt hand m (suc (suc (suc (suc i)))) h = absurd (omega arith)

module _ (r : Receiver) (sound : Sound r) (rest : List ℕ) where
  -- the state's bytes, and what stands behind them
  abbrev behind : List ℕ
  behind = state_bytes_of r ++ rest

  mark-saved : (i : ℕ) → i < 4 → get_or behind (mask_at + i) 0 ≡ flag_of (good_of r.hand i)
  unfolding state_bytes_of bytes_of
  mark-saved zero h = refl
  mark-saved (suc zero) h = refl
  mark-saved (suc (suc zero)) h = refl
  mark-saved (suc (suc (suc zero))) h = refl
  mark-saved (suc (suc (suc (suc i)))) h = absurd (omega arith)

  word-saved : (i : ℕ) → i < 4 → spell (bit_at behind) (byte_bits * (words_at + 2 * i)) (byte_bits * 2) ≡ word_of r.hand i
  unfolding state_bytes_of bytes_of
  word-saved zero h = spell-written behind _ 11 2 (word_of r.hand 0) refl (made-word-lt r.hand sound.hand 0 h)
  word-saved (suc zero) h = spell-written behind _ 13 2 (word_of r.hand 1) refl (made-word-lt r.hand sound.hand 1 h)
  word-saved (suc (suc zero)) h =
      spell-written behind _ 15 2 (word_of r.hand 2) refl (made-word-lt r.hand sound.hand 2 h)
  word-saved (suc (suc (suc zero))) h =
      spell-written behind _ 17 2 (word_of r.hand 3) refl (made-word-lt r.hand sound.hand 3 h)
  word-saved (suc (suc (suc (suc i)))) h = absurd (omega arith)

  -- field by field
  pub sound_back : restore_of behind ≡ r
  unfolding restore_of state_bytes_of bytes_of
  sound_back = λ k. record {
    window = spell-written behind _ 0 8 r.window refl sound.window k;
    count = r.count;
    place = place_back r.place k;
    held = flag_back r.held k;
    hand = hand-back behind r.hand sound.hand mark-saved word-saved k;
    run = r.run;
    bad = r.bad;
  }

-- every state reached from the fresh one comes back the same
pub restore_saved : (bits rest : List ℕ) → restore_of (state_bytes_of (fed_of fresh_of bits) ++ rest) ≡ fed_of fresh_of bits
restore_saved bits rest = sound_back (fed_of fresh_of bits) (fed_sound bits) rest

-- so what `save` leaves in a buffer that is long enough is read back by `restore`
pub restore_buffer : (bits out : List ℕ) → state_length ≤ length out
    → restore_of (buffer_of (fed_of fresh_of bits) out) ≡ fed_of fresh_of bits
unfolding buffer_of
restore_buffer bits out h = rw (le-ltb (length out) state_length h) (restore_saved bits (drop state_length out))
