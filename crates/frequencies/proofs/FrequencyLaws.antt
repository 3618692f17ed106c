-- AF codes and kHz are inverse to each other, both ways, and what is refused is refused exactly as row 11 says.
use Prim.Native.Nat.{ℕ, ◌+◌, ◌-◌, ◌*◌, ◌/◌, ◌%◌, ◌≤◌, ◌<◌}
use mathlib.Core.Bool.{Bool, true, false, cond, ◌||◌, or-true, false≢true}
use mathlib.Core.Logic.{◌↔◌, ◌⊎◌, inl, inr}
use mathlib.Core.Path.{◌≡◌, refl, sym, ap, ◌∙◌}
use native.Mathlib.Omega.{arith}
use borrow.Author.Tests.{ltb-true, ltb-false, leb-true, lt-ltb, le-ltb}
use lib.Dec.{leb, ltb}
use Rattle.std.specs.Prelude.{Result, Ok, Err}
use Rattle.frequencies.specs.Frequency.{first_code, last_code, khz_of, frequency_refusal, code_refusal}
use Rattle.frequencies.specs.Frequency.{no_frequency, frequency_of, frequency_number}
use Rattle.frequencies.specs.Frequency.{steps_above, below_codes, above_codes, between_codes, no_code}
use Rattle.frequencies.specs.Frequency.{code_of, code_number}
use Rattle.frequencies.specs.AfList.{none_expected, last_count, is_count, af_code}
use Rattle.frequencies.proofs.AfTests.{false_by, and_left, or-none, or_some}
use Rattle.frequencies.specs.declared.NoFrequency.{NoFrequency}
use Rattle.frequencies.specs.declared.Meaning.{Meaning}
use Rattle.frequencies.specs.declared.Meaning.TheVariants.{Count, Frequency, NoChange}

-- the frequency of a code

-- the code's kHz where the code has a frequency
pub frequency-given : (c : ℕ) → 1 ≤ c → c ≤ 204 → frequency_of c ≡ Ok (87500 + 100 * c)
unfolding frequency_of
frequency-given c lo hi = simp (le-ltb c first_code (omega arith), le-ltb last_code c (omega arith))

module _ (c : ℕ) where
  -- number 11 exactly if the code is outside 1 to 204
  pub frequency_refused : (frequency_number (frequency_of c) ≡ 11) ↔ ((c < 1) ⊎ (204 < c))
  unfolding frequency_of
  frequency_refused = (there (no_frequency c) refl, back)
    where
      there :
          (t : Bool) →
          no_frequency c ≡ t →
          frequency_number (cond t (Err frequency_refusal) (Ok (khz_of c))) ≡ 11 →
          (c < 1) ⊎ (204 < c)
      there true e n =
          elim (or_some (ltb c first_code) (ltb last_code c) e)
          [ inl h ↦ inl (ltb-true c first_code h) | inr h ↦ inr (ltb-true last_code c h) ]
      there false e n = absurd (omega arith)

      back : (c < 1) ⊎ (204 < c) → frequency_number (cond (no_frequency c) (Err frequency_refusal) (Ok (khz_of c))) ≡ 11
      back (inl h) = simp (lt-ltb c first_code (omega arith))
      back (inr h) = simp (lt-ltb last_code c (omega arith), or-true)

-- the frequency that a meaning gives
abbrev pub answered : Meaning → Result ℕ NoFrequency
answered (Count n) = Err frequency_refusal
answered (Frequency k) = Ok k
answered NoChange = Err frequency_refusal

-- a code has the frequency that it means to a list
pub frequency_meant : (c : ℕ) → answered (af_code c) ≡ frequency_of c
unfolding af_code frequency_of
frequency_meant c = chosen (c - none_expected) (khz_of c) (is_count c) (no_frequency c) apart
  where
    apart : is_count c ≡ true → no_frequency c ≡ true
    apart e =
        let high : leb none_expected c ≡ true = and_left (leb none_expected c) (leb c last_count) e in
        simp (lt-ltb last_code c (omega (arith, leb-true)), or-true)

    chosen :
        (n k : ℕ) (a b : Bool) →
        (a ≡ true → b ≡ true) →
        answered (cond a (Count n) (cond b NoChange (Frequency k))) ≡ cond b (Err frequency_refusal) (Ok k)
    chosen n k true true h = refl
    chosen n k true false h = absurd (false≢true (h refl))
    chosen n k false true h = refl
    chosen n k false false h = refl

-- the code of a frequency

-- kHz that a code has: none of the three tests of `no_code` holds
code-there : (k : ℕ) → no_code k ≡ false → (87600 ≤ k) × (k ≤ 107900) × ((k - 87500) % 100 ≡ 0)
code-there k e =
    let tests = or-none (below_codes k || above_codes k) (between_codes k) e in
    let ends = or-none (below_codes k) (above_codes k) tests.0 in
    let low : below_codes k ≡ false = ends.0 in
    let high : above_codes k ≡ false = ends.1 in
    let even : between_codes k ≡ false = tests.1 in
    (omega (arith, ltb-false), omega (arith, ltb-false), omega (arith, ltb-false))

-- kHz that a code has are as many steps of 100 kHz above 87,500
pub code_steps : (k : ℕ) → 87600 ≤ k → k ≤ 107900 → (k - 87500) % 100 ≡ 0 → code_of k ≡ Ok ((k - 87500) / 100)
unfolding code_of
code_steps k lo hi even =
    simp (
      false_by (below_codes k) (λ e. omega (arith, ltb-true)),
      false_by (above_codes k) (λ e. omega (arith, ltb-true)),
      false_by (between_codes k) (λ e. omega (arith, ltb-true)),
    )

-- the code whose kHz these are
pub code-given : (c : ℕ) → 1 ≤ c → c ≤ 204 → code_of (87500 + 100 * c) ≡ Ok c
code-given c lo hi =
    let steps : (87500 + 100 * c - 87500) / 100 ≡ c = omega arith in
    rw steps at (code_steps (87500 + 100 * c) (omega arith) (omega arith) (omega arith))

module _ (k : ℕ) where
  -- a code that is answered has these kHz, and is one of 1 to 204
  pub code_has : (c : ℕ) → code_of k ≡ Ok c → (1 ≤ c) × (c ≤ 204) × (87500 + 100 * c ≡ k)
  unfolding code_of
  code_has c = from (no_code k) refl
    where
      from :
          (t : Bool) →
          no_code k ≡ t →
          cond t (Err code_refusal) (Ok (steps_above k)) ≡ Ok c →
          (1 ≤ c) × (c ≤ 204) × (87500 + 100 * c ≡ k)
      from true e given = absurd (let z : ◌≡◌ {A = ℕ} 0 1 = cc in omega arith)
      from false e given =
          let steps : steps_above k ≡ c = cc in
          let there = code-there k e in
          (omega (arith, there), omega (arith, there), omega (arith, there))

  -- number 11 exactly if no code of 1 to 204 has these kHz
  pub code_refused : (code_number (code_of k) ≡ 11) ↔ ((c : ℕ) → 1 ≤ c → c ≤ 204 → 87500 + 100 * c ≡ k → ⊥)
  unfolding code_of
  code_refused = (there, back (no_code k) refl)
    where
      there : code_number (code_of k) ≡ 11 → (c : ℕ) → 1 ≤ c → c ≤ 204 → 87500 + 100 * c ≡ k → ⊥
      there n c lo hi e =
          let same = ap (λ (x : ℕ). code_number (code_of x)) (sym e) in
          let given : code_number (code_of k) ≡ 0 = same ∙ ap code_number (code-given c lo hi) in
          omega arith

      back :
          (t : Bool) →
          no_code k ≡ t →
          ((c : ℕ) → 1 ≤ c → c ≤ 204 → 87500 + 100 * c ≡ k → ⊥) →
          code_number (cond t (Err code_refusal) (Ok (steps_above k))) ≡ 11
      back true e none = refl
      back false e none =
          let there = code-there k e in
          absurd (none (steps_above k) (omega (arith, there)) (omega (arith, there)) (omega (arith, there)))

-- inverse to each other

-- the code of a code's frequency is the code
pub code_of-frequency : (c k : ℕ) → frequency_of c ≡ Ok k → code_of k ≡ Ok c
unfolding frequency_of
code_of-frequency c k = from (no_frequency c) refl
  where
    from : (t : Bool) → no_frequency c ≡ t → cond t (Err frequency_refusal) (Ok (khz_of c)) ≡ Ok k → code_of k ≡ Ok c
    from true e given = absurd (let z : ◌≡◌ {A = ℕ} 0 1 = cc in omega arith)
    from false e given =
        let khz : khz_of c ≡ k = cc in
        let inside = or-none (ltb c first_code) (ltb last_code c) e in
        rw khz at (code-given c (ltb-false c first_code inside.0) (ltb-false last_code c inside.1))

-- the frequency of a frequency's code is the frequency
pub frequency_of-code : (c k : ℕ) → code_of k ≡ Ok c → frequency_of c ≡ Ok k
frequency_of-code c k given =
    let has = code_has k c given in
    frequency-given c has.0 has.1 ∙ ap Ok has.2
