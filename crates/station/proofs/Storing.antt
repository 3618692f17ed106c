-- A pair stored into characters and marks that are said by their places; so what a group's content does to the name,
-- and to the text.
use Prim.Native.Nat.{ℕ, ◌+◌, ◌*◌, ◌/◌, ◌%◌, ◌<◌, ◌≤◌}
use mathlib.Core.Path.{◌≡◌, refl, sym, ap, ◌∙◌}
use mathlib.Core.Bool.{Bool, true, false, cond, true≢false, false≢true}
use mathlib.Core.List.{List}
use native.Mathlib.Decide.{ℕ_discrete}
use native.Mathlib.Omega.{arith}
use lib.Dec.{eqb, leb}
use lib.ListN.{length, get_or, set, length-set}
use lib.Seq.{get_or-set_same, get_or-set_other}
use borrow.Author.Tests.{eq-eqb, ne_eqb, leb-true}
use Rattle.std.specs.Prelude.{Option}
use Rattle.frequencies.proofs.AfTests.{cond_map}
use Rattle.groups.specs.declared.fields.Content.{Content}
use Rattle.groups.specs.declared.fields.Content.TheVariants.{Name0A, Name0B, Text2A, Text2B, Clock4A, Other}
use Rattle.groups.specs.Content.{first_of, second_of}
use Rattle.station.specs.declared.Text.{Text}
use Rattle.station.specs.declared.pairs.Pairs.{Pairs}
use Rattle.station.specs.Record.{Name, name_size, name_pairs, text_size, text_pairs}
use Rattle.station.specs.Update.{pair_stored, pairs_stored, name_after, text_stored, text_for, text_after}
use Rattle.station.specs.History.{listed, character_of, has_name, name_word, is_text, flag_of, has_text, text_word}
use Rattle.station.proofs.Lists.{length_listed, get_d_listed, listed_by, listed_same}

-- ---- characters and marks with pair p stored

abbrev pub stored_in : ℕ → ℕ → (ℕ → ℕ) → ℕ → ℕ
stored_in p word says i = cond (eqb (i / 2) p) (character_of i word) (says i)

abbrev pub marked_in : ℕ → (ℕ → Bool) → ℕ → Bool
marked_in p says q = cond (eqb q p) true (says q)

module _ (n : ℕ) (says : ℕ → ℕ) (p word : ℕ) where
  -- the characters before, and after the first of the two
  abbrev before : List ℕ
  before = listed n says

  abbrev half : List ℕ
  half = set before (2 * p) (first_of word)

  half_length : length half ≡ n
  half_length = length-set before (2 * p) (first_of word) ∙ length_listed n says

  at_second : (i : ℕ) → i < n → i ≡ 2 * p + 1 → get_or (pair_stored before p word) i 0 ≡ stored_in p word says i
  at_second i h e =
      ap (λ (j : ℕ). get_or (pair_stored before p word) j 0) e
      ∙ get_or-set_same half (2 * p + 1) (second_of word) 0 (omega (arith, half_length))
      ∙ sym (stored (omega arith) (omega arith))
    where
      stored : i / 2 ≡ p → i % 2 ≡ 1 → stored_in p word says i ≡ second_of word
      stored pair odd = rw (eq-eqb (i / 2) p pair, ne_eqb (i % 2) 0 (λ z. omega arith))

  at_first : (i : ℕ) → i < n → i ≡ 2 * p → get_or half i 0 ≡ stored_in p word says i
  at_first i h e =
      ap (λ (j : ℕ). get_or half j 0) e
      ∙ get_or-set_same before (2 * p) (first_of word) 0 (omega (arith, length_listed n says))
      ∙ sym (stored (omega arith) (omega arith))
    where
      stored : i / 2 ≡ p → i % 2 ≡ 0 → stored_in p word says i ≡ first_of word
      stored pair even = rw (eq-eqb (i / 2) p pair, eq-eqb (i % 2) 0 even)

  elsewhere : (i : ℕ) → i < n → (i ≡ 2 * p + 1 → ⊥) → (i ≡ 2 * p → ⊥) → get_or half i 0 ≡ stored_in p word says i
  elsewhere i h not-second not_first =
      get_or-set_other before (2 * p) i (first_of word) 0 not_first
      ∙ get_d_listed n says i 0 h
      ∙ sym (kept (λ pair. omega arith))
    where
      kept : (i / 2 ≡ p → ⊥) → stored_in p word says i ≡ says i
      kept other = rw (ne_eqb (i / 2) p other)

  stored_at : (i : ℕ) → i < n → get_or (pair_stored before p word) i 0 ≡ stored_in p word says i
  stored_at i h = by-second (ℕ_discrete i (2 * p + 1))
    where
      by_first : (i ≡ 2 * p + 1 → ⊥) → Dec (i ≡ 2 * p) → get_or half i 0 ≡ stored_in p word says i
      by_first not-second (yes e) = at_first i h e
      by_first not-second (no ne) = elsewhere i h not-second ne

      by-second : Dec (i ≡ 2 * p + 1) → get_or (pair_stored before p word) i 0 ≡ stored_in p word says i
      by-second (yes e) = at_second i h e
      by-second (no ne) = get_or-set_other half (2 * p + 1) i (second_of word) 0 ne ∙ by_first ne (ℕ_discrete i (2 * p))

  pub characters_stored : pair_stored (listed n says) p word ≡ listed n (stored_in p word says)
  characters_stored =
      listed_by n (stored_in p word says) 0 (pair_stored before p word)
      (length-set half (2 * p + 1) (second_of word) ∙ half_length) stored_at

  -- no place is in a pair that is beyond the last
  pub characters_beyond : n ≤ 2 * p → listed n says ≡ listed n (stored_in p word says)
  characters_beyond beyond =
      listed_same n says (stored_in p word says) (λ i h. sym (rw (ne_eqb (i / 2) p (λ e. omega arith))))

module _ (n : ℕ) (says : ℕ → Bool) (p : ℕ) where
  marked-at : (q : ℕ) → q < n → get_or (set (listed n says) p true) q false ≡ marked_in p says q
  marked-at q h = by_place (ℕ_discrete q p)
    where
      by_place : Dec (q ≡ p) → get_or (set (listed n says) p true) q false ≡ marked_in p says q
      by_place (yes e) =
          ap (λ (j : ℕ). get_or (set (listed n says) p true) j false) e
          ∙ get_or-set_same (listed n says) p true false (omega (arith, length_listed n says))
          ∙ sym (rw (eq-eqb q p e))
      by_place (no ne) =
          get_or-set_other (listed n says) p q true false ne ∙ get_d_listed n says q false h ∙ sym (rw (ne_eqb q p ne))

  pub marks_stored : set (listed n says) p true ≡ listed n (marked_in p says)
  marks_stored =
      listed_by n (marked_in p says) false (set (listed n says) p true)
      (length-set (listed n says) p true ∙ length_listed n says) marked-at

  pub marks_beyond : n ≤ p → listed n says ≡ listed n (marked_in p says)
  marks_beyond beyond =
      listed_same n says (marked_in p says) (λ q h. sym (rw (ne_eqb q p (λ e. omega arith))))

-- ---- characters and marks together

abbrev pub pairs_said : (size pairs : ℕ) → (ℕ → ℕ) → (ℕ → Bool) → Pairs size pairs
pairs_said size pairs says seen = record { characters = listed size says; seen = listed pairs seen }

-- a pair stored, where the characters are two for each pair
pairs-stored :
    (size pairs : ℕ) → size ≡ 2 * pairs → (says : ℕ → ℕ) (seen : ℕ → Bool) (p word : ℕ) →
    pairs_stored (pairs_said size pairs says seen) p word
    ≡ pairs_said size pairs (stored_in p word says) (marked_in p seen)
unfolding pairs_stored
pairs-stored size pairs double says seen p word = by_test (leb pairs p) refl
  where
    by_test : (t : Bool) → leb pairs p ≡ t →
        pairs_stored (pairs_said size pairs says seen) p word
        ≡ pairs_said size pairs (stored_in p word says) (marked_in p seen)
    by_test true e =
        let beyond = leb-true pairs p e in
        rw (e, characters_beyond size says p word (omega arith), marks_beyond pairs seen p beyond)
    by_test false e = rw (e, characters_stored size says p word, marks_stored pairs seen p)

-- ---- the name

abbrev pub name_said : (ℕ → ℕ) → (ℕ → Bool) → Name
name_said says seen = pairs_said name_size name_pairs says seen

pub name-taken : (k : Content) (says : ℕ → ℕ) (seen : ℕ → Bool) →
    name_after (name_said says seen) k
    ≡ name_said (λ i. cond (has_name (i / 2) k) (character_of i (name_word k)) (says i))
    (λ p. cond (has_name p k) true (seen p))
unfolding name_after has_name name_word
name-taken (Name0A switches a af pair) says seen = pairs-stored name_size name_pairs refl says seen a pair
name-taken (Name0B switches a pair) says seen = pairs-stored name_size name_pairs refl says seen a pair
name-taken (Text2A flag a first second) says seen = refl
name-taken (Text2B flag a pair) says seen = refl
name-taken Clock4A says seen = refl
name-taken Other says seen = refl

-- ---- the text

abbrev pub text_said : (ℕ → ℕ) → (ℕ → Bool) → Option Bool → Text
text_said says seen flag = record { pairs = pairs_said text_size text_pairs says seen; flag = flag }

text-stored : (flag : Option Bool) (says : ℕ → ℕ) (seen : ℕ → Bool) (p word : ℕ) →
    text_stored (text_said says seen flag) p word ≡ text_said (stored_in p word says) (marked_in p seen) flag
unfolding text_stored
text-stored flag says seen p word =
    ap (λ (pairs : Pairs text_size text_pairs). record { pairs = pairs; flag = flag })
    (pairs-stored text_size text_pairs refl says seen p word)

-- pairs 2a and 2a+1, one after the other, are the two of address a
module _ {A : Type 0} (a : ℕ) (first second old : A) (q : ℕ) where
  two-pairs :
      cond (eqb q (2 * a + 1)) second (cond (eqb q (2 * a)) first old)
      ≡ cond (eqb (q / 2) a) (cond (eqb (q % 2) 0) first second) old
  two-pairs = by-second (ℕ_discrete q (2 * a + 1))
    where
      by_first : (q ≡ 2 * a + 1 → ⊥) → Dec (q ≡ 2 * a) →
          cond (eqb q (2 * a)) first old ≡ cond (eqb (q / 2) a) (cond (eqb (q % 2) 0) first second) old
      by_first ne (yes e) =
          rw (eq-eqb q (2 * a) e, eq-eqb (q / 2) a (omega arith), eq-eqb (q % 2) 0 (omega arith))
      by_first ne (no ne') = rw (ne_eqb q (2 * a) ne', ne_eqb (q / 2) a (λ e. omega arith))

      by-second : Dec (q ≡ 2 * a + 1) →
          cond (eqb q (2 * a + 1)) second (cond (eqb q (2 * a)) first old)
          ≡ cond (eqb (q / 2) a) (cond (eqb (q % 2) 0) first second) old
      by-second (yes e) =
          rw (
            eq-eqb q (2 * a + 1) e,
            eq-eqb (q / 2) a (omega arith),
            ne_eqb (q % 2) 0 (λ z. omega arith),
          )
      by-second (no ne) = rw (ne_eqb q (2 * a + 1) ne) (by_first ne (ℕ_discrete q (2 * a)))

pub text_unchanged : (text : Text) (k : Content) → is_text k ≡ false → text_after text k ≡ text
unfolding text_after is_text
text_unchanged text (Name0A switches a af pair) e = refl
text_unchanged text (Name0B switches a pair) e = refl
text_unchanged text (Text2A flag a first second) e = absurd (true≢false e)
text_unchanged text (Text2B flag a pair) e = absurd (true≢false e)
text_unchanged text Clock4A e = refl
text_unchanged text Other e = refl

module _ (says : ℕ → ℕ) (seen : ℕ → Bool) (flag : Option Bool) where
  both_stored : (a first second : ℕ) →
      text_stored (text_stored (text_said says seen flag) (2 * a) first) (2 * a + 1) second
      ≡ text_said (λ i. cond (eqb (i / 2 / 2) a) (character_of i (cond (eqb (i / 2 % 2) 0) first second)) (says i))
      (λ p. cond (eqb (p / 2) a) true (seen p)) flag
  both_stored a first second =
      ap (λ (t : Text). text_stored t (2 * a + 1) second) (text-stored flag says seen (2 * a) first)
      ∙ text-stored flag (stored_in (2 * a) first says) (marked_in (2 * a) seen) (2 * a + 1) second
      ∙ (λ i. record { pairs = record { characters = characters i; seen = marks i }; flag = flag })
    where
      characters :
          listed text_size (stored_in (2 * a + 1) second (stored_in (2 * a) first says))
          ≡ listed text_size
          (λ i. cond (eqb (i / 2 / 2) a) (character_of i (cond (eqb (i / 2 % 2) 0) first second)) (says i))
      characters =
          listed_same text_size _ _ (λ i h.
          two-pairs a (character_of i first) (character_of i second) (says i) (i / 2)
          ∙ ap (λ (z : ℕ). cond (eqb (i / 2 / 2) a) z (says i))
          (sym (cond_map (character_of i) (eqb (i / 2 % 2) 0) first second)))

      same : (t : Bool) → cond t true true ≡ true
      same true = refl
      same false = refl

      marks :
          listed text_pairs (marked_in (2 * a + 1) (marked_in (2 * a) seen))
          ≡ listed text_pairs (λ p. cond (eqb (p / 2) a) true (seen p))
      marks =
          listed_same text_pairs _ _ (λ p h.
          two-pairs a true true (seen p) p
          ∙ ap (λ (z : Bool). cond (eqb (p / 2) a) z (seen p)) (same (eqb (p % 2) 0)))

  -- a text group stores into the text that its flag leaves
  pub text_taken : (text : Text) (k : Content) → is_text k ≡ true → text_for text (flag_of k) ≡ text_said says seen flag →
      text_after text k
      ≡ text_said (λ i. cond (has_text (i / 2) k) (character_of i (text_word (i / 2) k)) (says i))
      (λ p. cond (has_text p k) true (seen p)) flag
  unfolding text_after is_text flag_of has_text text_word
  text_taken text (Name0A switches a af pair) is left = absurd (false≢true is)
  text_taken text (Name0B switches a pair) is left = absurd (false≢true is)
  text_taken text (Text2A f a first second) is left =
      ap (λ (t : Text). text_stored (text_stored t (2 * a) first) (2 * a + 1) second) left ∙ both_stored a first second
  text_taken text (Text2B f a pair) is left =
      ap (λ (t : Text). text_stored t a pair) left ∙ text-stored flag says seen a pair
  text_taken text Clock4A is left = absurd (false≢true is)
  text_taken text Other is left = absurd (false≢true is)
