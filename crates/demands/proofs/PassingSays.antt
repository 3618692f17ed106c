-- What a group of a submission says of the station, where the marking rules hold of it: the key's header, and pairs of
-- the key's name and text. By what the group carries; each pair of the key is two of its bytes.
use Prim.Native.Nat.{ℕ, ◌+◌, ◌*◌, ◌/◌, ◌%◌, ◌<◌}
use mathlib.Core.Path.{◌≡◌, refl, sym, ap, ◌∙◌}
use mathlib.Core.List.{List}
use mathlib.Core.Bool.{Bool, true, false, cond, false≢true}
use mathlib.Core.Logic.{⊎_elim}
use native.Mathlib.Omega.{arith}
use lib.Dec.{eqb}
use lib.ListN.{get_or, take, drop}
use lib.Seq.{get_or-take, get_or-drop}
use borrow.Author.Tests.{eqb-true, eq-eqb, ne_eqb}
use Rattle.bits.specs.Bytes.{Bytes}
use Rattle.bits.proofs.Order.{lt-or-le}
use Rattle.groups.specs.declared.fields.Content.{Content}
use Rattle.groups.specs.declared.fields.Content.TheVariants.{Name0A, Name0B, Text2A, Text2B, Clock4A, Other}
use Rattle.groups.specs.Group.{word_of, good_of, is_all_good_of, counts_of}
use Rattle.groups.specs.Header.{version_of}
use Rattle.groups.specs.Content.{switches_of, name_address, text_address, text_flag, header_of}
use Rattle.groups.proofs.Contents.{content_0A, content_0B, content_2A, content_2B}
use Rattle.station.specs.History.{carried_in, character_of, has_name, name_word, is_text, flag_of, has_text, text_word}
use Rattle.station.specs.Whole.{SaysHeader, SaysName, SaysText}
use Rattle.keys.specs.Fields.{name_byte, text_byte, pair_of, pi_of, pty_of, tp_of, text_pair_of}
use Rattle.keys.proofs.FieldLaws.{pair_high, pair_low, name_pair_at, text_pair_at}
use Rattle.marker.specs.Submission.{word_at, content_at}
use Rattle.marker.specs.Rules.{IsName, Is2A, Is2B, HeaderRight, NameRight, TextRight, No2B}
use Rattle.marker.proofs.RuleLaws.{Carried, a-name, a_2A, a_2B, a-clock, another, carried}
use Rattle.demands.specs.Passing.{name_of, text_of}
use Rattle.demands.proofs.PassingHeard.{group_at}

-- ---- bytes of the key

-- pair p of characters, and the two of them
abbrev pair_at : (ℕ → ℕ) → ℕ → ℕ
pair_at b p = pair_of (b (2 * p)) (b (2 * p + 1))

pair_character : (b : ℕ → ℕ) → ((i : ℕ) → b i < 256) → (i : ℕ) → character_of i (pair_at b (i / 2)) ≡ b i
pair_character b byte i =
    ⊎_elim (λ l. rw (eq-eqb (i % 2) 0 (omega arith)) (pair_high _ _ (byte _) ∙ ap b (omega arith)))
    (λ l. rw (ne_eqb (i % 2) 0 (λ e. omega arith)) (pair_low _ _ (byte _) ∙ ap b (omega arith))) (lt-or-le (i % 2) 1)

-- a byte of a part of the key
part_at : (k : List ℕ) (place size i : ℕ) → i < size → get_or (take size (drop place k)) i 0 ≡ get_or k (place + i) 0
part_at k place size i l = get_or-take size (drop place k) i 0 l ∙ get_or-drop place k i 0

-- the two pairs of a text address
pair_of_two : (k : List ℕ) (p a : ℕ) → p / 2 ≡ a
    → cond (eqb (p % 2) 0) (text_pair_of k (2 * a)) (text_pair_of k (2 * a + 1)) ≡ text_pair_of k p
pair_of_two k p a e =
    ⊎_elim (λ l. rw (eq-eqb (p % 2) 0 (omega arith)) (ap (text_pair_of k) (omega arith)))
    (λ l. rw (ne_eqb (p % 2) 0 (λ z. omega arith)) (ap (text_pair_of k) (omega arith))) (lt-or-le (p % 2) 1)

-- ---- what a group carries

module _ (s : List ℕ) (g : ℕ) where
  abbrev word2 : ℕ
  word2 = word_at s g 1

  abbrev word3 : ℕ
  word3 = word_at s g 2

  abbrev word4 : ℕ
  word4 = word_at s g 3

  -- whatever is to be shown of it is shown by its type
  by-type : (P : Content → Type 0)
      → (IsName s g → P (Name0A (switches_of word2) (name_address word2) word3 word4))
      → (IsName s g → P (Name0B (switches_of word2) (name_address word2) word4))
      → (Is2A s g → P (Text2A (text_flag word2) (text_address word2) word3 word4))
      → (Is2B s g → P (Text2B (text_flag word2) (text_address word2) word4))
      → ((IsName s g → ⊥) → (Is2A s g → ⊥) → P Clock4A)
      → ((IsName s g → ⊥) → (Is2A s g → ⊥) → P Other)
      → P (content_at s g)
  by-type P in-0A in-0B in-2A in-2B in-4A in-other = told (carried s g)
    where
      told : Carried s g → P (content_at s g)
      told (a-name n) =
          ⊎_elim (λ v. rw (content_0A word2 word3 word4 (omega (arith, n, v))) (in-0A n))
          (λ v. rw (content_0B word2 word3 word4 (omega (arith, n, v))) (in-0B n))
          (lt-or-le (version_of word2) 1)
      told (a_2A t) = rw (content_2A word2 word3 word4 (omega (arith, t.0, t.1))) (in-2A t)
      told (a_2B t) = rw (content_2B word2 word3 word4 (omega (arith, t.0, t.1))) (in-2B t)
      told (a-clock n t e) = rw e (in-4A n t)
      told (another n t e) = rw e (in-other n t)

  -- a name group has the name's pair of its address
  pub name_has : (p : ℕ) → IsName s g → name_address word2 ≡ p → has_name p (carried_in (group_at s g)) ≡ true
  unfolding word_of has_name
  name_has p n e =
      let same : eqb p (name_address word2) ≡ true = eq-eqb p (name_address word2) (sym e) in
      by-type (λ c. has_name p c ≡ true) (λ _. same) (λ _. same) (λ t. absurd (omega (arith, n, t.0)))
      (λ t. absurd (omega (arith, n, t.0))) (λ f _. absurd (f n)) (λ f _. absurd (f n))

  -- a 2A has the text's two pairs of its address
  pub text_has : (p : ℕ) → Is2A s g → text_address word2 ≡ p / 2 → has_text p (carried_in (group_at s g)) ≡ true
  unfolding word_of has_text
  text_has p t e =
      by-type (λ c. has_text p c ≡ true) (λ n. absurd (omega (arith, n, t.0))) (λ n. absurd (omega (arith, n, t.0)))
      (λ _. eq-eqb (p / 2) (text_address word2) (sym e)) (λ u. absurd (omega (arith, t.1, u.1)))
      (λ _ f. absurd (f t)) (λ _ f. absurd (f t))

-- ---- what it says

-- where a test says no, nothing is asked
none : {A : Type 0} → false ≡ true → A
none e = absurd (false≢true e)

module _ (k s : List ℕ) (g : ℕ) where
  pub says_header : HeaderRight k s g → SaysHeader (pi_of k) (pty_of k) (tp_of k) (group_at s g)
  unfolding word_of good_of is_all_good_of counts_of header_of
  says_header right = record { counts = refl; pi_is = right.pi; pty_is = right.pty; tp_is = right.tp }

  module _ (bytes : Bytes k) where
    pub says_name : NameRight k s g → SaysName (name_of k) (group_at s g)
    unfolding word_of has_name name_word
    says_name right =
        by-type s g
        (λ c. (i : ℕ) → i < 8 → has_name (i / 2) c ≡ true → character_of i (name_word c) ≡ get_or (name_of k) i 0)
        of-name of-name (λ _ _ _ e. none e) (λ _ _ _ e. none e) (λ _ _ _ _ e. none e) (λ _ _ _ _ e. none e)
      where
        of-name : IsName s g → (i : ℕ) → i < 8 → eqb (i / 2) (name_address (word_at s g 1)) ≡ true
            → character_of i (word_at s g 3) ≡ get_or (name_of k) i 0
        of-name n i l e =
            let a : i / 2 ≡ name_address (word_at s g 1) = eqb-true _ _ e in
            rw (right n, ← a, name_pair_at k (i / 2) (omega arith))
            (pair_character (name_byte k) (λ j. bytes (4 + j)) i ∙ sym (part_at k 4 8 i l))

    pub says_text : (flag : Bool) → TextRight k s g → No2B s g → (Is2A s g → text_flag (word_at s g 1) ≡ flag)
        → SaysText flag (text_of k) (group_at s g)
    unfolding word_of is_text flag_of has_text text_word
    says_text flag right no_2B same =
        record {
          flag_is =
              by-type s g (λ c. is_text c ≡ true → flag_of c ≡ flag) (λ _ e. none e) (λ _ e. none e) (λ t _. same t)
              (λ t _. absurd (no_2B t)) (λ _ _ e. none e) (λ _ _ e. none e);
          text_is =
              by-type s g
              (λ c. (i : ℕ) → i < 64 → has_text (i / 2) c ≡ true
              → character_of i (text_word (i / 2) c) ≡ get_or (text_of k) i 0)
              (λ _ _ _ e. none e) (λ _ _ _ e. none e) of-text (λ t _ _ _. absurd (no_2B t)) (λ _ _ _ _ e. none e)
              (λ _ _ _ _ e. none e);
        }
      where
        of-text : Is2A s g → (i : ℕ) → i < 64 → eqb (i / 2 / 2) (text_address (word_at s g 1)) ≡ true
            → character_of i (cond (eqb (i / 2 % 2) 0) (word_at s g 2) (word_at s g 3)) ≡ get_or (text_of k) i 0
        of-text t i l e =
            let a : i / 2 / 2 ≡ text_address (word_at s g 1) = eqb-true _ _ e in
            rw (
              (right t).0,
              (right t).1,
              pair_of_two k (i / 2) (text_address (word_at s g 1)) a,
              text_pair_at k (i / 2) (omega arith),
            )
            (pair_character (text_byte k) (λ j. bytes (12 + j)) i ∙ sym (part_at k 12 64 i l))
