-- Each refusal exactly when the table says: the laws of the crates, joined to the rows' words.
use Prim.Native.Nat.{ℕ, ◌+◌, ◌<◌, ◌≤◌}
use mathlib.Core.Path.{◌≡◌, refl, sym, ap, ◌∙◌}
use mathlib.Core.List.{List}
use mathlib.Core.Bool.{Bool, true, false}
use mathlib.Core.Logic.Iff
use mathlib.Core.Logic.{◌↔◌, ⊎_elim}
use native.Mathlib.Omega.{arith}
use lib.ListN.{length}
use borrow.Author.Tests.{lt-ltb, le-ltb}
use Rattle.bits.proofs.Order.{lt-or-le}
use Rattle.blocks.proofs.Reading.{read_number, judge-number, length_12, length_over}
use Rattle.groups.specs.Written.{group_size, no_room, put_at_of, put_number}
use Rattle.groups.proofs.RoomLaws.{put_short}
use Rattle.frequencies.proofs.FrequencyLaws.{frequency_refused, code_refused}
use Rattle.clock.proofs.Numbers.{write_10, date_10}
use Rattle.receiver.specs.declared.Receiver.{Receiver}
use Rattle.receiver.specs.declared.Step.{Step}
use Rattle.receiver.proofs.Refusal.{refused_9, only-refused_9, refused-same}
use Rattle.receiver.proofs.Feeds.{advance-number}
use Rattle.letters.proofs.Exactly.{told_tells, eight-if, eight_only, eight-same}
use Rattle.saving.specs.Saving.{state_length, save_of, saved_number, buffer_of}
use Rattle.station.specs.Record.{held_clock_of}
use Rattle.keys.specs.Sheet.{HasExercise, key_at}
use Rattle.keys.specs.Fields.{wanted_of}
use Rattle.keys.specs.Good.{GoodKey}
use Rattle.keys.specs.Asked.{key_number_of}
use Rattle.keys.proofs.AnswerLaws.{one_is_none, two_is_bad, none_is_one, bad_is_two}
use Rattle.encoder.specs.Encoding.{size_of}
use Rattle.encoder.proofs.SizeLaws.{size_wanted, size_unwanted}
use Rattle.encoder.proofs.AnswerLaws.{number_1, number_2, number_8}
use Rattle.encoder.proofs.BufferLaws.{refused-same as encoder-same}
use Rattle.marker.proofs.UnmarkedLaws.{unmarked}
use Rattle.demands.specs.When as when
use Rattle.demands.specs.When.{NoExercise, TooShort}
use Rattle.demands.specs.Refusals.{encoded, BufferStays, RowOne, RowTwo, RowThree, RowFour, RowFive, RowSix}
use Rattle.demands.specs.Refusals.{RowSeven, RowEight, RowNine, RowTen, RowEleven, RowTwelve, NotMarked}
use Rattle.demands.specs.Refusals.{Demand1}
use Rattle.demands.proofs.Words.{no_exercise}
use Rattle.demands.proofs.Marks.{exercise-there, place_0, one, two, three, four, five, six, seven}

-- a refusal of the encoder, with whatever number, leaves the buffer as it was
buffer_stays : (number : ℕ) → 1 ≤ number → BufferStays number
buffer_stays number l sheet n out e = encoder-same sheet n out (λ z. omega (arith, e, z))

-- ---- 1 and 2

pub row_one : RowOne
row_one =
    record {
      mark = one;
      place = λ sheet n s p m. place_0 sheet n s 1 p (omega arith) m;
      key_of = λ sheet n. Iff.trans (
        one_is_none sheet n,
        λ f. ap key_number_of (none_is_one sheet n f),
      ) (no_exercise sheet n);
      encode = λ sheet n room. Iff.trans (number_1 sheet n room) (no_exercise sheet n);
      encode_same = buffer_stays 1 (omega arith);
    }

-- there is such an exercise, in the row's words
there : (sheet : List ℕ) (n : ℕ) {P : Type 0} → (HasExercise sheet n × P) ↔ ((NoExercise sheet n → ⊥) × P)
there sheet n = (λ t. ((exercise-there sheet n).1 t.0, t.1), λ t. ((exercise-there sheet n).0 t.0, t.1))

pub row_two : RowTwo
row_two =
    record {
      mark = two;
      place = λ sheet n s p m. place_0 sheet n s 2 p (omega arith) m;
      key_of = λ sheet n. Iff.trans (
        two_is_bad sheet n,
        λ t. ap key_number_of (bad_is_two sheet n t.0 t.1),
      ) (there sheet n);
      encode = λ sheet n room. Iff.trans (number_2 sheet n room) (there sheet n);
      encode_same = buffer_stays 2 (omega arith);
    }

-- ---- 3 to 7

pub row_three : RowThree
row_three = record { mark = three; place = λ sheet n s p m. place_0 sheet n s 3 p (omega arith) m }

pub row_four : RowFour
row_four = record { mark = four }

pub row_five : RowFive
row_five = record { mark = five }

pub row_six : RowSix
row_six = record { mark = six }

pub row_seven : RowSeven
row_seven = record { mark = seven }

-- ---- 8

-- what the encoder writes is 52 bytes, or 260 where text is wanted
too_short : (k : List ℕ) (room : ℕ) → (room < size_of k) ↔ TooShort k room
too_short k room = (λ l. by-text (wanted_of k) refl l, back)
  where
    by-text : (b : Bool) → wanted_of k ≡ b → room < size_of k → TooShort k room
    by-text true w l = when.TooShort.text w (omega (arith, size_wanted k w))
    by-text false w l = when.TooShort.name w (omega (arith, size_unwanted k w))

    back : TooShort k room → room < size_of k
    back (when.TooShort.name w l) = omega (arith, size_unwanted k w)
    back (when.TooShort.text w l) = omega (arith, size_wanted k w)

encode_8 : (sheet : List ℕ) (n room : ℕ) → (encoded sheet n room ≡ 8)
    ↔ ((NoExercise sheet n → ⊥) × GoodKey (key_at sheet n) × TooShort (key_at sheet n) room)
encode_8 sheet n room =
    Iff.trans (number_8 sheet n room) (
      λ t. ((exercise-there sheet n).1 t.0, t.1, (too_short (key_at sheet n) room).0 t.2),
      λ t. ((exercise-there sheet n).0 t.0, t.1, (too_short (key_at sheet n) room).1 t.2),
    )

module _ (out : List ℕ) (at : ℕ) where
  put-8 : (put_number (put_at_of out at) ≡ 8) ↔ (length out < at + group_size)
  unfolding put_at_of no_room
  put-8 = (
    λ e. ⊎_elim (λ l. l) (λ l. absurd (omega (arith, rw (le-ltb (length out) (at + group_size) l) at e)))
        (lt-or-le (length out) (at + group_size)),
    λ l. ap put_number (sym (put_short out out at l).0),
  )

module _ (out : List ℕ) where
  save-8 : (saved_number (save_of out) ≡ 8) ↔ (length out < state_length)
  unfolding save_of
  save-8 = (
    λ e. ⊎_elim (λ l. l) (λ l. absurd (omega (arith, rw (le-ltb (length out) state_length l) at e)))
        (lt-or-le (length out) state_length),
    λ l. rw (lt-ltb (length out) state_length l),
  )

  save_same : (r : Receiver) → length out < state_length → buffer_of r out ≡ out
  unfolding buffer_of
  save_same r l = rw (lt-ltb (length out) state_length l)

pub row_eight : RowEight
row_eight =
    record {
      encode = encode_8;
      encode_same = buffer_stays 8 (omega arith);
      put_at = put-8;
      put_at_same = λ words out at e. sym (put_short words out at ((put-8 out at).0 e)).2;
      save = save-8;
      save_same = λ r out e. save_same out r ((save-8 out).0 e);
      tell = λ text out. (eight_only (told_tells text out), eight-if (told_tells text out));
      tell_same = λ text out e. eight-same (told_tells text out) e;
    }

-- ---- 9

pub row_nine : RowNine
row_nine =
    record {
      step = λ r bit. (
        λ e. let l = only-refused_9 r bit e in (λ z. omega (arith, l, z), λ z. omega (arith, l, z)),
        λ f. refused_9 r bit (⊎_elim (λ l. l) (λ l. absurd (neither bit l f.0 f.1)) (lt-or-le 1 bit)),
      );
      step_same = λ r bit e. ap (λ (s : Step). s.next) (refused-same r bit (only-refused_9 r bit e));
      advance = λ r s byte bit e. omega (arith, e, advance-number r s byte bit);
    }
  where
    neither : (bit : ℕ) → bit ≤ 1 → (bit ≡ 0 → ⊥) → (bit ≡ 1 → ⊥) → ⊥
    neither bit l f g = omega (arith, f, g)

-- ---- 10 to 12

pub row_ten : RowTen
row_ten = record { write = write_10; local_date = date_10; record_date = λ station. date_10 (held_clock_of station) }

pub row_eleven : RowEleven
row_eleven = record { frequency = frequency_refused; code = code_refused }

pub row_twelve : RowTwelve
row_twelve =
    record {
      read = λ n. (λ e. length_12 n (sym (read_number n) ∙ e), λ l. read_number n ∙ length_over n l);
      judge = λ n k. (λ e. length_12 n (sym (judge-number n k) ∙ e), λ l. judge-number n k ∙ length_over n l);
    }

-- ---- what is not marked

pub not-marked : NotMarked
not-marked sheet n s t alike = unmarked s t alike sheet n

pub demand_1 : Demand1
demand_1 =
    record {
      one = row_one;
      two = row_two;
      three = row_three;
      four = row_four;
      five = row_five;
      six = row_six;
      seven = row_seven;
      eight = row_eight;
      nine = row_nine;
      ten = row_ten;
      eleven = row_eleven;
      twelve = row_twelve;
      not-marked = not-marked;
    }
