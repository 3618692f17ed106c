-- From the answer to "the key of exercise n" to all that `encode` promises: the equation, the number, the values and
-- the buffer.
use Prim.Native.Nat.{ℕ}
use mathlib.Core.Path.{◌≡◌, refl, sym, ap, ◌∙◌}
use mathlib.Core.List.{List}
use mathlib.Core.Bool.{cond}
use lib.ListN.{length}
use Rattle.keys.specs.Sheet.{key_at}
use Rattle.keys.specs.Asked.{key_number_of, given, key_of}
use Rattle.keys.specs.declared.Key.{Key}
use Rattle.keys.specs.declared.KeyError.{KeyError}
use Rattle.keys.specs.declared.KeyError.TheVariants as key
use Rattle.keys.proofs.AnswerLaws.{one_is_none, two_is_bad, zero_is_good, good_is_zero}
use Rattle.encoder.specs.Encoding.{size_of}
use Rattle.encoder.specs.Answer.{refused, encoded_number, encoded_values, too_short}
use Rattle.encoder.specs.Answer.{encode_of, encode_number, encode_values, after_of, out_of}
use Rattle.std.specs.Prelude.{Result, Ok, Err}
use Rattle.encoder.specs.declared.EncodeError.{EncodeError}
use Rattle.encoder.specs.declared.EncodeError.TheVariants.{NoKey, BadKey, TooShort}
use Rattle.encoder.proofs.AnswerLaws.{answer_none, answer_bad, answer_good, encode_number_lem, encode_values_lem}

-- what is promised of the answer r and the buffer afterwards
abbrev pub Promised : List ℕ → ℕ → List ℕ → Result ℕ EncodeError → List ℕ → Type 0
Promised sheet n out r after =
    (r ≡ encode_of sheet n (length out)) × (encoded_number r ≡ encode_number sheet n (length out))
    × (encoded_values r ≡ encode_values sheet n (length out)) × (after ≡ out_of sheet n out)

module _ (sheet : List ℕ) (n : ℕ) (out : List ℕ) where
  -- the answer, and the buffer by the answer, settle it
  pub promise_settled : (r : Result ℕ EncodeError) (after : List ℕ) → r ≡ encode_of sheet n (length out)
      → after ≡ after_of r (key_at sheet n) out → Promised sheet n out r after
  unfolding out_of
  promise_settled r after e f = (
    e,
    ap encoded_number e ∙ encode_number_lem sheet n (length out),
    ap encoded_values e ∙ encode_values_lem sheet n (length out),
    f ∙ ap (λ (s : Result ℕ EncodeError). after_of s (key_at sheet n) out) e,
  )

  -- there is no key
  pub promise_refused : (error : KeyError) → Err error ≡ key_of sheet n → Promised sheet n out (Err (refused error)) out
  promise_refused key.NoKey e =
      let none = one_is_none sheet n (ap key_number_of (sym e)) in
      promise_settled (Err NoKey) out (sym (answer_none sheet n (length out) none)) refl
  promise_refused key.BadKey e =
      let bad = two_is_bad sheet n (ap key_number_of (sym e)) in
      promise_settled (Err BadKey) out (sym (answer_bad sheet n (length out) bad.0 bad.1)) refl

  -- there is one, and the room decides
  pub promise_good : (k : Key) → Ok k ≡ key_of sheet n → (r : Result ℕ EncodeError) (after : List ℕ)
      → r ≡ cond (too_short k.bytes (length out)) (Err TooShort) (Ok (size_of k.bytes))
      → after ≡ after_of r k.bytes out → Promised sheet n out r after
  promise_good k e r after f g =
      let good = zero_is_good sheet n (ap key_number_of (sym e)) in
      let whole : ◌≡◌ {A = Result Key KeyError} (Ok k) (given (key_at sheet n)) =
      e ∙ good_is_zero sheet n good.0 good.1 in
      let same : k.bytes ≡ key_at sheet n = cc in
      promise_settled r after
      (f ∙ rw same (sym (answer_good sheet n (length out) good.0 good.1)))
      (g ∙ ap (λ (b : List ℕ). after_of r b out) same)
