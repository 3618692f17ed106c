-- A key is good exactly if the test says so. A run of bytes passes `all_good` exactly if each byte of it passes, and
-- each of the five tests is turned into its line of the rule.
use Prim.Native.Nat.{ℕ, zero, suc, ◌+◌, ◌≤◌, ◌<◌}
use mathlib.Core.Path.{◌≡◌, refl, sym, ◌∙◌}
use mathlib.Core.List.{List}
use mathlib.Core.Bool.{Bool, true, false, and-eq-true_iff, true≢false}
use mathlib.Core.Logic.{⊎_elim}
use native.Mathlib.Nat.{eq-or-lt_of_le, le_of_suc-le-suc, not-suc-le-zero}
use native.Mathlib.Omega.{arith}
use lib.ListN.{length, get_or, take, drop, length-drop}
use lib.Seq.{length-take-le, get_or-take, get_or-drop}
use lib.Dec.{ltb, leb}
use Rattle.std.specs.Prelude.{MatchBool}
use Rattle.std.specs.List.{AllWithin, HoldsAt}
use borrow.Author.Tests.{leb-true, le-leb, ltb-true, lt-ltb, eqb-true, eq-eqb}
use Rattle.keys.specs.Fields.{name_place, text_place, last_place, name_byte, text_byte, last_byte}
use Rattle.keys.specs.Fields.{pty_of, flags_of, wanted_of}
use Rattle.keys.specs.Wanted.{text_size}
use Rattle.keys.specs.Good.{most_pty, flags_limit, space, name_size, last_size, GoodKey, byte_good, all_good, key_good}

-- ---- one byte

pub shown-good : (x : ℕ) → space ≤ x → byte_good true x ≡ true
unfolding byte_good
shown-good x l = le-leb space x l

pub good_shown : (x : ℕ) → byte_good true x ≡ true → space ≤ x
unfolding byte_good
good_shown x e = leb-true space x e

pub zero-good : (x : ℕ) → x ≡ 0 → byte_good false x ≡ true
unfolding byte_good
zero-good x z = eq-eqb x 0 z

pub good-zero : (x : ℕ) → byte_good false x ≡ true → x ≡ 0
unfolding byte_good
good-zero x e = eqb-true x 0 e

-- ---- a run of bytes

module _ (shown : Bool) (k : List ℕ) (at : ℕ) where
  pub all_good_at : (n : ℕ) → all_good shown k at n ≡ true → (i : ℕ) → i < n → byte_good shown (get_or k (at + i) 0) ≡ true
  unfolding all_good
  all_good_at zero e i l = absurd (not-suc-le-zero l)
  all_good_at (suc n) e i l =
      let both = (and-eq-true_iff (all_good shown k at n) _).0 e in
      ⊎_elim (λ q. rw q both.1) (λ lt. all_good_at n both.0 i lt) (eq-or-lt_of_le (le_of_suc-le-suc l))

  pub at_all_good : (n : ℕ) → ((i : ℕ) → i < n → byte_good shown (get_or k (at + i) 0) ≡ true)
      → all_good shown k at n ≡ true
  unfolding all_good
  at_all_good zero each = refl
  at_all_good (suc n) each = rw (at_all_good n (λ i l. each i (omega arith)), each n (omega arith))

  -- one that is not good is enough
  not_all_good : (n i : ℕ) → i < n → byte_good shown (get_or k (at + i) 0) ≡ false
      → (b : Bool) → all_good shown k at n ≡ b → false ≡ all_good shown k at n
  not_all_good n i l bad true e = absurd (true≢false (sym (all_good_at n e i l) ∙ bad))
  not_all_good n i l bad false e = sym e

  -- what a search of the slice of these bytes found: each is good, or there is one that is not
  pub all_good_slice : (n : ℕ) (good : Bool) → at + n ≤ length k
      → MatchBool good (AllWithin (λ x. byte_good shown x ≡ true) (take n (drop at k)) 0 (length (take n (drop at k))))
      ((i : ℕ) × (i < length (take n (drop at k))) × HoldsAt (λ x. byte_good shown x ≡ false) (take n (drop at k)) i)
      → good ≡ all_good shown k at n
  all_good_slice n good room found = by_test good found
    where
      size : length (take n (drop at k)) ≡ n
      size = length-take-le n (drop at k) (rw length-drop (omega arith))

      there : (i : ℕ) → i < n → get_or (take n (drop at k)) i 0 ≡ get_or k (at + i) 0
      there i l = get_or-take n (drop at k) i 0 l ∙ get_or-drop at k i 0

      by_test : (b : Bool)
          → MatchBool b (AllWithin (λ x. byte_good shown x ≡ true) (take n (drop at k)) 0 (length (take n (drop at k))))
          ((i : ℕ) × (i < length (take n (drop at k))) × HoldsAt (λ x. byte_good shown x ≡ false) (take n (drop at k)) i)
          → b ≡ all_good shown k at n
      by_test true each =
          sym (at_all_good n (λ i l. rw (there i l) at (each i 0 (omega arith) (rw size l))))
      by_test false one =
          let l : one.0 < n = rw size at one.1 in
          let bad : byte_good shown (get_or k (at + one.0) 0) ≡ false = rw (there one.0 l) at (one.2 0) in
          not_all_good n one.0 l bad (all_good shown k at n) refl

-- ---- a key

module _ (k : List ℕ) where
  pub good_key : key_good k ≡ true → GoodKey k
  unfolding key_good
  good_key e =
      let a = (and-eq-true_iff (leb (pty_of k) most_pty) _).0 e in
      let b = (and-eq-true_iff (ltb (flags_of k) flags_limit) _).0 a.1 in
      let c = (and-eq-true_iff (all_good true k name_place name_size) _).0 b.1 in
      let d = (and-eq-true_iff (all_good (wanted_of k) k text_place text_size) _).0 c.1 in
      record {
        pty_most = leb-true (pty_of k) most_pty a.0;
        flags_zero = ltb-true (flags_of k) flags_limit b.0;
        name_shown = λ i l. good_shown (name_byte k i) (all_good_at true k name_place name_size c.0 i l);
        text_shown = λ w i l.
            good_shown (text_byte k i) (all_good_at true k text_place text_size (rw w at d.0) i l);
        text_zero = λ w i l.
            good-zero (text_byte k i) (all_good_at false k text_place text_size (rw w at d.0) i l);
        last_zero = λ i l. good-zero (last_byte k i) (all_good_at false k last_place last_size d.1 i l);
      }

  -- the text bytes of a good key pass the test, whether text is wanted or not
  text-good : GoodKey k → (b : Bool) → wanted_of k ≡ b → all_good b k text_place text_size ≡ true
  text-good g true w = at_all_good true k text_place text_size (λ i l. shown-good (text_byte k i) (g.text_shown w i l))
  text-good g false w = at_all_good false k text_place text_size (λ i l. zero-good (text_byte k i) (g.text_zero w i l))

  pub key_good_lem : GoodKey k → key_good k ≡ true
  unfolding key_good
  key_good_lem g =
      rw (
        le-leb (pty_of k) most_pty g.pty_most,
        lt-ltb (flags_of k) flags_limit g.flags_zero,
        at_all_good true k name_place name_size (λ i l. shown-good (name_byte k i) (g.name_shown i l)),
        text-good g (wanted_of k) refl,
        at_all_good false k last_place last_size (λ i l. zero-good (last_byte k i) (g.last_zero i l)),
      )
