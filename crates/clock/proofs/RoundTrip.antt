-- A clock written as words reads back the same, and the words of a 4A in range, read and written again, are the same.
-- The fields lie side by side in the words, so each comes out by a quotient and a remainder.
use Prim.Native.Nat.{ℕ, ◌+◌, ◌-◌, ◌*◌, ◌/◌, ◌%◌, ◌^◌, ◌≤◌, ◌<◌}
use mathlib.Core.Path.{◌≡◌, refl, sym, ap, ap₂, ◌∙◌}
use mathlib.Core.Bool.{Bool, true, false, cond, not, ◌&&◌}
use mathlib.Core.List.{List, [], ◌∷◌}
use native.Mathlib.Nat.{div-div-eq-div-mul, div-add-mod', div-one, zero-add, add-zero}
use native.Mathlib.Decide.{dec_lt}
use native.Mathlib.Omega.{arith}
use lib.Dec.{eqb, lit≤}
use Rattle.std.specs.Prelude.{Some, Result, Ok, Err}
use borrow.Author.Tests.{eq-eqb, ne_eqb}
use Rattle.clock.specs.declared.Clock.{Clock}
use Rattle.clock.specs.declared.OutOfRange.{OutOfRange}
use Rattle.clock.specs.Range.{last_day, InRange, in_range, last_pty}
use Rattle.clock.specs.Words.{bits, day_in, hour_in, half_in, sign_of, clock_in, read_of}
use Rattle.clock.specs.Words.{word2_of, word3_of, word4_of, write_of}
use Rattle.clock.specs.Words.{plain_of, Is4A, tp_in, pty_in, plain_word2, plain_word4, words_of, out_of_range}
use Rattle.clock.proofs.Parts.{clock-same}
use Rattle.clock.proofs.Ranges.{in_range_true}
use Rattle.clock.proofs.Numbers.{read_at, read_nothing, write_words, write_out, write_over}

-- ---- A sign

one_not_zero : ◌≡◌ {A = ℕ} 0 1 → ⊥
one_not_zero e = omega arith

flag-le : (flag : Bool) → cond flag 1 0 ≤ 1
flag-le true = lit≤ tt
flag-le false = lit≤ tt

flag_back : (flag : Bool) → eqb (cond flag 1 0) 1 ≡ flag
flag_back true = refl
flag_back false = refl

flag-there : (b : ℕ) → b < 2 → cond (eqb b 1) 1 0 ≡ b
flag-there b h = at (dec_lt b 1)
  where
    at : Dec (b < 1) → cond (eqb b 1) 1 0 ≡ b
    at (yes p) = rw (ne_eqb b 1 (λ e. omega arith)) (omega arith)
    at (no q) =
        let one : b ≡ 1 = omega (arith, q) in
        rw (eq-eqb b 1 one) (sym one)

sign_read : (negative none : Bool) → (eqb (cond (negative && not none) 1 0) 1 && not none) ≡ (negative && not none)
sign_read true true = refl
sign_read true false = refl
sign_read false true = refl
sign_read false false = refl

-- ---- Written, then read

plain_range : (clock : Clock) → in_range clock ≡ true → in_range (plain_of clock) ≡ true
unfolding in_range plain_of
plain_range clock e = e

module _ (tp : Bool) (pty : ℕ) (clock : Clock) (within : InRange clock) (pty-to : pty ≤ last_pty) where
  clock_back : clock_in (word2_of tp pty clock) (word3_of clock) (word4_of clock) ≡ plain_of clock
  unfolding clock_in plain_of word2_of word3_of word4_of
  clock_back =
      let tp-le : cond tp 1 0 ≤ 1 = flag-le tp in
      let sign_le : sign_of clock ≤ 1 = flag-le (clock.negative && not (eqb clock.half 0)) in
      let day : day_in (word2_of tp pty clock) (word3_of clock) ≡ clock.day.0 =
      omega (arith, within.day.last, within.hour) in
      let hour : hour_in (word3_of clock) (word4_of clock) ≡ clock.hour =
      omega (arith, within.hour, within.minute, within.half) in
      let minute : bits 11 6 (word4_of clock) ≡ clock.minute = omega (arith, within.minute, within.half) in
      let sign : bits 5 5 (word4_of clock) ≡ sign_of clock = omega (arith, within.half) in
      let half : half_in (word4_of clock) ≡ clock.half = omega (arith, within.half) in
      let negative :
      (eqb (bits 5 5 (word4_of clock)) 1 && not (eqb (half_in (word4_of clock)) 0))
      ≡ (clock.negative && not (eqb clock.half 0)) =
      rw (sign, half) (sign_read clock.negative (eqb clock.half 0)) in
      clock-same day hour minute negative half

-- Written words come from a clock in range and a PTY of at most 31.
written_range : (pi : ℕ) (tp : Bool) (pty : ℕ) (clock : Clock) (word1 word2 word3 word4 : ℕ) →
    write_of pi tp pty clock ≡ Ok (word1 ∷ word2 ∷ word3 ∷ word4 ∷ []) →
    (in_range clock ≡ true) × (pty ≤ last_pty)
written_range pi tp pty clock word1 word2 word3 word4 e = at (in_range clock) refl (dec_lt last_pty pty)
  where
    refused : Err out_of_range ≡ write_of pi tp pty clock → ⊥
    refused r =
        let z : ◌≡◌ {A = ℕ} 0 1 = cc (r ∙ e) in
        omega arith

    at : (t : Bool) → in_range clock ≡ t → Dec (last_pty < pty) → (in_range clock ≡ true) × (pty ≤ last_pty)
    at true r (yes p) = absurd (refused (write_over pi tp pty clock p))
    at true r (no q) = (r, omega (arith, q))
    at false r d = absurd (refused (write_out pi tp pty clock r))

-- What is written is the words, each in its place.
pub written_words : (pi : ℕ) (tp : Bool) (pty : ℕ) (clock : Clock) (word1 word2 word3 word4 : ℕ) →
    write_of pi tp pty clock ≡ Ok (word1 ∷ word2 ∷ word3 ∷ word4 ∷ []) →
    (word1 ≡ pi) × (word2 ≡ word2_of tp pty clock) × (word3 ≡ word3_of clock) × (word4 ≡ word4_of clock)
written_words pi tp pty clock word1 word2 word3 word4 e =
    let range : (in_range clock ≡ true) × (pty ≤ last_pty) = written_range pi tp pty clock word1 word2 word3 word4 e in
    let words : Ok (words_of pi tp pty clock) ≡ Ok (word1 ∷ word2 ∷ word3 ∷ word4 ∷ []) =
    write_words pi tp pty clock range.0 range.1 ∙ e in
    (cc, cc, cc, cc)

-- What is written reads back the same; a negative sign with offset 0 reads back as plain 0.
pub read-write : (pi : ℕ) (tp : Bool) (pty : ℕ) (clock : Clock) (word1 word2 word3 word4 : ℕ) →
    write_of pi tp pty clock ≡ Ok (word1 ∷ word2 ∷ word3 ∷ word4 ∷ []) →
    read_of word2 word3 word4 ≡ Some (plain_of clock)
read-write pi tp pty clock word1 word2 word3 word4 e =
    let range : (in_range clock ≡ true) × (pty ≤ last_pty) = written_range pi tp pty clock word1 word2 word3 word4 e in
    let within : InRange clock = in_range_true clock range.0 in
    let words :
    (word1 ≡ pi) × (word2 ≡ word2_of tp pty clock) × (word3 ≡ word3_of clock) × (word4 ≡ word4_of clock) =
    written_words pi tp pty clock word1 word2 word3 word4 e in
    rw (words.1, words.2, words.3)
    (sym
    (read_at (word2_of tp pty clock) (word3_of clock) (word4_of clock)
    (ap in_range (clock_back tp pty clock within range.1) ∙ plain_range clock range.0))
    ∙ ap Some (clock_back tp pty clock within range.1))

-- A clock that is not negative with offset 0 is its own plain form, so it reads back the same in every field.
pub plain-same : (clock : Clock) → (clock.negative ≡ true → 1 ≤ clock.half) → plain_of clock ≡ clock
unfolding plain_of
plain-same clock h = clock-same refl refl refl (at clock.negative refl) refl
  where
    at : (negative : Bool) → clock.negative ≡ negative →
        (clock.negative && not (eqb clock.half 0)) ≡ clock.negative
    at true e = rw (e, ne_eqb clock.half 0 (λ z. omega (arith, h e, z)))
    at false e = rw e

-- The head of word 2, over plain numbers.
abbrev Head : ℕ → ℕ → ℕ → Type 0
Head word2 tp pty = Is4A word2 × (bits 10 10 word2 ≡ tp) × (bits 9 5 word2 ≡ pty) × (bits 4 2 word2 ≡ 0)

head-bits : (word2 tp pty high : ℕ) →
    word2 ≡ 4 * 2 ^ 12 + tp * 2 ^ 10 + pty * 2 ^ 5 + high →
    tp ≤ 1 →
    pty ≤ last_pty →
    high < 4 →
    Head word2 tp pty
head-bits word2 tp pty high e tp-to pty-to high-to =
    let type : word2 / 2 ^ 12 ≡ 4 = omega arith in
    let version : word2 / 2 ^ 11 ≡ 8 = omega arith in
    let flag : word2 / 2 ^ 10 ≡ 16 + tp = omega arith in
    let kind : word2 / 2 ^ 5 ≡ (16 + tp) * 2 ^ 5 + pty = omega arith in
    let spare : word2 / 2 ^ 2 ≡ ((16 + tp) * 2 ^ 5 + pty) * 2 ^ 3 = omega arith in
    ((rw type, rw version), rw flag (omega (arith, tp-to)), rw kind (omega (arith, pty-to)), rw spare (omega arith))

-- The head of what is written: a 4A with the given PI, TP and PTY, bits 4-2 of word 2 zero.
pub written-head : (pi : ℕ) (tp : Bool) (pty : ℕ) (clock : Clock) (word1 word2 word3 word4 : ℕ) →
    write_of pi tp pty clock ≡ Ok (word1 ∷ word2 ∷ word3 ∷ word4 ∷ []) →
    (word1 ≡ pi) × Is4A word2 × (tp_in word2 ≡ tp) × (pty_in word2 ≡ pty) × (bits 4 2 word2 ≡ 0)
unfolding word2_of
written-head pi tp pty clock word1 word2 word3 word4 e =
    let range : (in_range clock ≡ true) × (pty ≤ last_pty) = written_range pi tp pty clock word1 word2 word3 word4 e in
    let within : InRange clock = in_range_true clock range.0 in
    let last : clock.day.0 ≤ last_day = within.day.last in
    let to : pty ≤ last_pty = range.1 in
    let words :
    (word1 ≡ pi) × (word2 ≡ word2_of tp pty clock) × (word3 ≡ word3_of clock) × (word4 ≡ word4_of clock) =
    written_words pi tp pty clock word1 word2 word3 word4 e in
    let head : Head word2 (cond tp 1 0) pty =
    head-bits word2 (cond tp 1 0) pty (clock.day.0 / 2 ^ 15) words.1 (flag-le tp) to (omega arith) in
    (words.0, head.0, ap (λ (b : ℕ). eqb b 1) head.1 ∙ flag_back tp, head.2, head.3)

-- ---- Read, then written

-- A word's bits below a place and above it.
digit : (word low size : ℕ) → word / (low * size) * size + word / low % size ≡ word / low
digit word low size = rw (← div-div-eq-div-mul) (div-add-mod' (word / low) size)

-- The highest four bits.
top : (word : ℕ) → word < 2 ^ 16 → bits 15 12 word ≡ word / 2 ^ 12
top word fits = omega arith

-- Word 2 is made up of its fields.
parts-word2 : (word2 : ℕ) → word2 < 2 ^ 16 → bits 15 12 word2 ≡ 4 → bits 11 11 word2 ≡ 0 →
    4 * 2 ^ 12 + bits 10 10 word2 * 2 ^ 10 + bits 9 5 word2 * 2 ^ 5 + bits 1 0 word2 ≡ plain_word2 word2
parts-word2 word2 fits type version =
    sum (bits 1 0 word2) (bits 4 2 word2) (bits 9 5 word2) (bits 10 10 word2) (word2 / 2 ^ 2) (word2 / 2 ^ 5)
    (word2 / 2 ^ 10) (word2 / 2 ^ 11) (digit word2 1 4 ∙ div-one word2) (digit word2 (2 ^ 2) (2 ^ 3))
    (digit word2 (2 ^ 5) (2 ^ 5)) (digit word2 (2 ^ 10) 2)
    (sym (digit word2 (2 ^ 11) 2) ∙ ap₂ (λ (high low : ℕ). high * 2 + low) (sym (top word2 fits) ∙ type) version)
  where
    sum : (high spare pty tp at2 at5 at10 at11 : ℕ) →
        at2 * 4 + high ≡ word2 →
        at5 * 8 + spare ≡ at2 →
        at10 * 32 + pty ≡ at5 →
        at11 * 2 + tp ≡ at10 →
        at11 ≡ 8 →
        4 * 2 ^ 12 + tp * 2 ^ 10 + pty * 2 ^ 5 + high ≡ word2 - spare * 2 ^ 2
    sum high spare pty tp at2 at5 at10 at11 a b c d e = omega arith

-- Word 4 is made up of its fields, the sign in two parts.
parts-word4 : (word4 here gone : ℕ) → word4 < 2 ^ 16 → here + gone ≡ bits 5 5 word4 →
    bits 15 12 word4 * 2 ^ 12 + bits 11 6 word4 * 2 ^ 6 + here * 2 ^ 5 + bits 4 0 word4 ≡ word4 - gone * 2 ^ 5
parts-word4 word4 here gone fits sign =
    sum (bits 4 0 word4) (bits 5 5 word4) (bits 11 6 word4) (bits 15 12 word4) (word4 / 2 ^ 5) (word4 / 2 ^ 6)
    (digit word4 1 32 ∙ div-one word4) (digit word4 (2 ^ 5) 2)
    (ap (λ (high : ℕ). high * 2 ^ 6 + bits 11 6 word4) (top word4 fits) ∙ digit word4 (2 ^ 6) (2 ^ 6)) sign
  where
    sum : (half flag minute hour at5 at6 : ℕ) →
        at5 * 32 + half ≡ word4 →
        at6 * 2 + flag ≡ at5 →
        hour * 64 + minute ≡ at6 →
        here + gone ≡ flag →
        hour * 2 ^ 12 + minute * 2 ^ 6 + here * 2 ^ 5 + half ≡ word4 - gone * 2 ^ 5
    sum half flag minute hour at5 at6 a b c d = omega arith

either : (none : Bool) (sign : ℕ) → cond none 0 sign + cond none sign 0 ≡ sign
either true sign = zero-add sign
either false sign = add-zero sign

-- A sign that was read is written as it was, but for offset 0.
sign-there : (negative none : Bool) →
    cond {A = ℕ} (negative && not none && not none) 1 0 ≡ cond none 0 (cond negative 1 0)
sign-there true true = refl
sign-there true false = refl
sign-there false true = refl
sign-there false false = refl

module _ (word2 word3 word4 : ℕ) (fits2 : word2 < 2 ^ 16) (fits3 : word3 < 2 ^ 16) (fits4 : word4 < 2 ^ 16) where
  -- The words of the clock that words carry.
  word2-back : Is4A word2 → word2_of (tp_in word2) (pty_in word2) (clock_in word2 word3 word4) ≡ plain_word2 word2
  unfolding word2_of clock_in
  word2-back group =
      let flag : cond (tp_in word2) 1 0 ≡ bits 10 10 word2 = flag-there (bits 10 10 word2) (omega arith) in
      let high : day_in word2 word3 / 2 ^ 15 ≡ bits 1 0 word2 = omega arith in
      rw (flag, high) (parts-word2 word2 fits2 group.0 group.1)

  word3-back : word3_of (clock_in word2 word3 word4) ≡ word3
  unfolding word3_of clock_in
  word3-back = omega arith

  word4-back : word4_of (clock_in word2 word3 word4) ≡ plain_word4 word4
  unfolding word4_of clock_in
  word4-back =
      let hour : hour_in word3 word4 % 2 ^ 4 ≡ bits 15 12 word4 = omega arith in
      let sign : sign_of (clock_in word2 word3 word4) ≡ cond (eqb (half_in word4) 0) 0 (bits 5 5 word4) =
      sign-there (eqb (bits 5 5 word4) 1) (eqb (half_in word4) 0)
      ∙ ap (λ (b : ℕ). cond (eqb (half_in word4) 0) 0 b) (flag-there (bits 5 5 word4) (omega arith)) in
      rw (hour, sign)
      (parts-word4 word4 (cond (eqb (half_in word4) 0) 0 (bits 5 5 word4))
      (cond (eqb (half_in word4) 0) (bits 5 5 word4) 0)
      fits4 (either (eqb (half_in word4) 0) (bits 5 5 word4)))

  written : (pi : ℕ) → Is4A word2 → in_range (clock_in word2 word3 word4) ≡ true →
      write_of pi (tp_in word2) (pty_in word2) (clock_in word2 word3 word4)
      ≡ Ok (pi ∷ plain_word2 word2 ∷ word3 ∷ plain_word4 word4 ∷ [])
  written pi group r =
      sym (write_words pi (tp_in word2) (pty_in word2) (clock_in word2 word3 word4) r (omega arith))
      ∙ words (word2-back group) word3-back word4-back
    where
      words : {a a' b b' d d' : ℕ} → a ≡ a' → b ≡ b' → d ≡ d' →
          ◌≡◌ {A = Result (List ℕ) OutOfRange} (Ok (pi ∷ a ∷ b ∷ d ∷ [])) (Ok (pi ∷ a' ∷ b' ∷ d' ∷ []))
      words p q s = cc

  -- A 4A of any words in range, read and written again with the PI and its own TP and PTY, gives the same words but for
  -- bits 4-2 of word 2 and the sign of offset 0.
  pub write_read : (pi : ℕ) (clock : Clock) → Is4A word2 → read_of word2 word3 word4 ≡ Some clock →
      write_of pi (tp_in word2) (pty_in word2) clock ≡ Ok (pi ∷ plain_word2 word2 ∷ word3 ∷ plain_word4 word4 ∷ [])
  unfolding read_of
  write_read pi clock group e = at (in_range (clock_in word2 word3 word4)) refl
    where
      at : (t : Bool) → in_range (clock_in word2 word3 word4) ≡ t →
          write_of pi (tp_in word2) (pty_in word2) clock ≡ Ok (pi ∷ plain_word2 word2 ∷ word3 ∷ plain_word4 word4 ∷ [])
      at true r =
          let same : clock ≡ clock_in word2 word3 word4 = cc (read_at word2 word3 word4 r ∙ e) in
          rw same (written pi group r)
      at false r =
          let z : ◌≡◌ {A = ℕ} 0 1 = cc (read_nothing word2 word3 word4 r ∙ e) in
          absurd (one_not_zero z)
