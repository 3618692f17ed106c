-- No second answer: nothing is asked, and each promise says that the answer is equal to a definition at the arguments,
-- and what was lent to another. Two things that are equal to a third are equal.
use Prim.Native.Nat.{ℕ, zero, suc, ◌/◌, ◌%◌, ◌^◌, ◌<◌}
use mathlib.Core.Path.{◌≡◌, refl, sym, ◌∙◌}
use mathlib.Core.Bool.{Bool, true, false}
use native.Mathlib.Numerals.{one-add}
use native.Mathlib.Omega.{arith}
use lib.Dec.{eqb}
use lib.Pow.{mod-pow-add}
use borrow.Author.Tests.{eqb-true, eqb-false}
use Rattle.letters.proofs.Exactly.{one_answer, one_within, one-put, one_wrote}
use Rattle.marker.specs.Steps.{has}
use Rattle.demands.specs.OneAnswer.{Blocks, Groups, Fields, Bytes, Frequencies, Clock, Receiver, Saving}
use Rattle.demands.specs.OneAnswer.{Station, Held, Keys, Encoder, Marker, OneMask, Letters, Telling, Recording}
use Rattle.demands.specs.OneAnswer.{Asking, Answers, NoSecondAnswer}

-- two things that are equal to a third
pub equation_settles : {A : Type 0} {x y z : A} → x ≡ z → y ≡ z → x ≡ y
equation_settles p q = p ∙ sym q

blocks : Blocks
blocks =
    record {
      offset = λ κs a. (tt, λ r r' e e' p q. equation_settles p q);
      check = λ κs a. (tt, λ r r' e e' p q. equation_settles p q);
      write = λ κs a. (tt, λ r r' e e' p q. equation_settles p q);
      read = λ κs a. (tt, λ r r' e e' p q. equation_settles p.0 q.0);
      judge = λ κs a. (tt, λ r r' e e' p q. equation_settles p.0 q.0);
    }

groups : Groups
groups =
    record {
      empty = λ κs a. (tt, λ r r' e e' p q. equation_settles p q);
      with_block = λ κs a. (tt, λ r r' e e' p q. equation_settles p q);
      all_good = λ κs a. (tt, λ r r' e e' p q. equation_settles p q);
      word = λ κs a. (tt, λ r r' e e' p q. equation_settles p q);
      good = λ κs a. (tt, λ r r' e e' p q. equation_settles p q);
      is_all_good = λ κs a. (tt, λ r r' e e' p q. equation_settles p q);
      counts = λ κs a. (tt, λ r r' e e' p q. equation_settles p q);
      third_kind = λ κs a. (tt, λ r r' e e' p q. equation_settles p q);
      expected = λ κs a. (tt, λ r r' e e' p q. equation_settles p q);
    }

fields : Fields
fields =
    record {
      header_of = λ κs a. (tt, λ r r' e e' p q. equation_settles p q);
      header_from = λ κs a. (tt, λ r r' e e' p q. equation_settles p q);
      content_from = λ κs a. (tt, λ r r' e e' p q. equation_settles p q);
      content_of = λ κs a. (tt, λ r r' e e' p q. equation_settles p q);
      switches_of = λ κs a. (tt, λ r r' e e' p q. equation_settles p q);
      first = λ κs a. (tt, λ r r' e e' p q. equation_settles p q);
      second = λ κs a. (tt, λ r r' e e' p q. equation_settles p q);
    }

bytes : Bytes
bytes =
    record {
      blocks_of = λ κs a. (tt, λ r r' e e' p q. equation_settles p q);
      bytes_of = λ κs a. (tt, λ r r' e e' p q. equation_settles p q);
      put_at = λ κs a. (tt, λ r r' e e' p q. (equation_settles p.0 q.0, equation_settles p.2 q.2));
      byte_at = λ κs a. (tt, λ r r' e e' p q. equation_settles p q);
      block_at = λ κs a. (tt, λ r r' e e' p q. equation_settles p q);
      word_at = λ κs a. (tt, λ r r' e e' p q. equation_settles p q);
      group_of = λ κs a. (tt, λ r r' e e' p q. equation_settles p q);
    }

frequencies : Frequencies
frequencies =
    record {
      frequency = λ κs a. (tt, λ r r' e e' p q. equation_settles p.0 q.0);
      code = λ κs a. (tt, λ r r' e e' p q. equation_settles p.0 q.0);
      empty = λ κs a. (tt, λ r r' e e' p q. equation_settles p q);
      taken = λ κs a. (tt, λ r r' e e' p q. equation_settles p q);
      held = λ κs a. (tt, λ r r' e e' p q. equation_settles p q);
      expected = λ κs a. (tt, λ r r' e e' p q. equation_settles p q);
      at = λ κs a. (tt, λ r r' e e' p q. equation_settles p q);
    }

clock : Clock
clock =
    record {
      read = λ κs a. (tt, λ r r' e e' p q. equation_settles p.0 q.0);
      write = λ κs a. (tt, λ r r' e e' p q. equation_settles p.0 q.0);
      local_date = λ κs a. (tt, λ r r' e e' p q. equation_settles p.0 q.0);
    }

receiver : Receiver
receiver =
    record {
      new = λ κs a. (tt, λ r r' e e' p q. equation_settles p q);
      step = λ κs a. (tt, λ r r' e e' p q. equation_settles p.0 q.0);
      advance = λ κs a. (tt, λ r r' e e' p q. equation_settles p.0 q.0);
      group = λ κs a. (tt, λ r r' e e' p q. equation_settles p q);
    }

saving : Saving
saving =
    record {
      save = λ κs a. (tt, λ r r' e e' p q. (equation_settles p.0 q.0, equation_settles p.2 q.2));
      restore = λ κs a. (tt, λ r r' e e' p q. equation_settles p q);
    }

station : Station
station =
    record {
      fresh = λ κs a. (tt, λ r r' e e' p q. equation_settles p q);
      updated = λ κs a. (tt, λ r r' e e' p q. equation_settles p q);
      take_in = λ κs a. (tt, λ r r' e e' p q. (refl, equation_settles p q));
      taken = λ κs a. (tt, λ r r' e e' p q. equation_settles p q);
    }

held : Held
held =
    record {
      pi = λ κs a. (tt, λ r r' e e' p q. equation_settles p.0 q.0);
      pty = λ κs a. (tt, λ r r' e e' p q. equation_settles p q);
      tp = λ κs a. (tt, λ r r' e e' p q. equation_settles p q);
      name_characters = λ κs a. (tt, λ r r' e e' p q. equation_settles p q);
      name_seen = λ κs a. (tt, λ r r' e e' p q. equation_settles p q);
      text_characters = λ κs a. (tt, λ r r' e e' p q. equation_settles p q);
      text_seen = λ κs a. (tt, λ r r' e e' p q. equation_settles p q);
      text_flag = λ κs a. (tt, λ r r' e e' p q. equation_settles p.0 q.0);
      af_list = λ κs a. (tt, λ r r' e e' p q. equation_settles p q);
      held_clock = λ κs a. (tt, λ r r' e e' p q. equation_settles p.0 q.0);
      local_date = λ κs a. (tt, λ r r' e e' p q. equation_settles p.0 q.0);
    }

keys : Keys
keys =
    record {
      key_of = λ κs a. (tt, λ r r' e e' p q. equation_settles p.0 q.0);
      pi = λ κs a. (tt, λ r r' e e' p q. equation_settles p q);
      pty = λ κs a. (tt, λ r r' e e' p q. equation_settles p q);
      tp = λ κs a. (tt, λ r r' e e' p q. equation_settles p q);
      wanted = λ κs a. (tt, λ r r' e e' p q. equation_settles p q);
      name_pair = λ κs a. (tt, λ r r' e e' p q. equation_settles p q);
      text_pair = λ κs a. (tt, λ r r' e e' p q. equation_settles p q);
      addresses = λ κs a. (tt, λ r r' e e' p q. equation_settles p q);
      text_length = λ κs a. (tt, λ r r' e e' p q. equation_settles p q);
    }

encoder : Encoder
encoder =
    record {
      encode = λ κs a. (tt, λ r r' e e' p q. (equation_settles p.0 q.0, equation_settles p.3 q.3));
    }

marker : Marker
marker =
    record {
      mark = λ κs a. (tt, λ r r' e e' p q. equation_settles p.0 q.0);
      number = λ κs a. (tt, λ r r' e e' p q. equation_settles p q);
      place = λ κs a. (tt, λ r r' e e' p q. equation_settles p q);
    }

-- what is told is settled by the text and the buffer
letters : Letters
letters =
    record {
      tell = λ κs a. (tt, λ r r' e e' p q. one_answer p q);
      written = λ κs a. (tt, λ r r' e e' p q. equation_settles p q);
      put = λ κs a. (tt, λ r r' e e' p q. one-put p q);
      put_byte = λ κs a. (tt, λ r r' e e' p q. one-put p q);
      put_number = λ κs a. (tt, λ r r' e e' p q. one-put p q);
      put_word = λ κs a. (tt, λ r r' e e' p q. one-put p q);
      put_hex = λ κs a. (tt, λ r r' e e' p q. one-put p q);
      put_last_two = λ κs a. (tt, λ r r' e e' p q. one-put p q);
      put_character = λ κs a. (tt, λ r r' e e' p q. one-put p q);
    }

telling : Telling
telling =
    record {
      lock = λ κs a. (tt, λ r r' e e' p q. one_within p q);
      lost = λ κs a. (tt, λ r r' e e' p q. one_within p q);
      group = λ κs a. (tt, λ r r' e e' p q. one_within p q);
      record_lines = λ κs a. (tt, λ r r' e e' p q. one_within p q);
      count_lines = λ κs a. (tt, λ r r' e e' p q. one_within p q);
      none = λ κs a. (tt, λ r r' e e' p q. equation_settles p q);
      counted = λ κs a. (tt, λ r r' e e' p q. equation_settles p q);
    }

recording : Recording
recording =
    record {
      fresh = λ κs a. (tt, λ r r' e e' p q. equation_settles p q);
      heard = λ κs a. (tt, λ r r' e e' p q. equation_settles p q);
      bits_after = λ κs a. (tt, λ r r' e e' p q. equation_settles p q);
      group_line = λ κs a. (tt, λ r r' e e' p q. one_wrote p.0 q.0);
      lock_line = λ κs a. (tt, λ r r' e e' p q. one_wrote p.0 q.0);
      record_lines = λ κs a. (tt, λ r r' e e' p q. one_wrote p.0 q.0);
      count_lines = λ κs a. (tt, λ r r' e e' p q. one_wrote p.0 q.0);
    }

asking : Asking
asking =
    record {
      named = λ κs a. (tt, λ r r' e e' p q. equation_settles p q);
      is_standard = λ κs a. (tt, λ r r' e e' p q. equation_settles p q);
      is_summary = λ κs a. (tt, λ r r' e e' p q. equation_settles p q);
      listen_asked = λ κs a. (tt, λ r r' e e' p q. equation_settles p q);
      after = λ κs a. (tt, λ r r' e e' p q. equation_settles p q);
      there = λ κs a. (tt, λ r r' e e' p q. equation_settles p q);
      goes_on = λ κs a. (tt, λ r r' e e' p q. equation_settles p q);
      failed = λ κs a. (tt, λ r r' e e' p q. equation_settles p q);
    }

answers : Answers
answers =
    record {
      sheet_buffer = λ κs a. (tt, λ r r' e e' p q. equation_settles p q);
      input_buffer = λ κs a. (tt, λ r r' e e' p q. equation_settles p q);
      marked = λ κs a. (tt, λ r r' e e' p q. equation_settles p q);
      mark_line = λ κs a. (tt, λ r r' e e' p q. one_within p q);
      encode_output = λ κs a. (tt, λ r r' e e' p q. one_within p q);
      encode_error = λ κs a. (tt, λ r r' e e' p q. one_within p q);
      whole_line = λ κs a. (tt, λ r r' e e' p q. one_wrote p.0 q.0);
      whole_output = λ κs a. (tt, λ r r' e e' p q. one_wrote p.0 q.0);
      whole_error = λ κs a. (tt, λ r r' e e' p q. one_wrote p.0 q.0);
    }

-- ---- masks

module _ (mask mask' : ℕ) where
  -- two bits of which the same is said are equal
  bit-same : (a : ℕ) → has mask a ≡ has mask' a → mask / 2 ^ a % 2 ≡ mask' / 2 ^ a % 2
  unfolding has
  bit-same a e = told (eqb (mask / 2 ^ a % 2) 1) refl
    where
      told : (b : Bool) → eqb (mask / 2 ^ a % 2) 1 ≡ b → mask / 2 ^ a % 2 ≡ mask' / 2 ^ a % 2
      told true t =
          eqb-true (mask / 2 ^ a % 2) 1 t ∙ sym (eqb-true (mask' / 2 ^ a % 2) 1 (sym e ∙ t))
      told false f =
          let no = eqb-false (mask / 2 ^ a % 2) 1 f in
          let no' = eqb-false (mask' / 2 ^ a % 2) 1 (sym e ∙ f) in
          omega (arith, no, no')

  -- so are the lowest k bits as a number, bit by bit
  low_same : (k : ℕ) → ((a : ℕ) → a < k → has mask a ≡ has mask' a) → mask % 2 ^ k ≡ mask' % 2 ^ k
  low_same zero same = omega arith
  low_same (suc k) same =
      rw (
        ← one-add k,
        mod-pow-add mask 1 k,
        mod-pow-add mask' 1 k,
        bit-same k (same k (omega arith)),
        low_same k (λ a l. same a (omega arith)),
      )

one_mask : OneMask
one_mask mask mask' l l' same = omega (arith, low_same mask mask' 32 same)

pub no-second-answer : NoSecondAnswer
no-second-answer =
    record {
      blocks = blocks;
      groups = groups;
      fields = fields;
      bytes = bytes;
      frequencies = frequencies;
      clock = clock;
      receiver = receiver;
      saving = saving;
      station = station;
      held = held;
      keys = keys;
      encoder = encoder;
      marker = marker;
      seen_after = one_mask;
      letters = letters;
      telling = telling;
      recording = recording;
      asking = asking;
      answers = answers;
    }
