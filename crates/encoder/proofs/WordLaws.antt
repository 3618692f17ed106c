-- The four words that bring an address of a key: which they are, that they have 16 bits, and what a reader of groups
-- finds in them. The fields of word 2 are digits of one sum, which linear arithmetic takes apart.
use Prim.Native.Nat.{ℕ, zero, suc, ◌+◌, ◌*◌, ◌-◌, ◌/◌, ◌%◌, ◌^◌, ◌<◌, ◌≤◌}
use mathlib.Core.Path.{◌≡◌, refl, ap, ◌∙◌}
use mathlib.Core.List.{List, [], ◌∷◌}
use mathlib.Core.Bool.{Bool, true, false, cond}
use mathlib.Core.Logic.{⊎_elim}
use native.Mathlib.Omega.{arith}
use lib.ListN.{get_or}
use lib.Dec.{eqb, ltb}
use borrow.Author.Tests.{lt-ltb, le-ltb}
use Rattle.bits.specs.Bytes.{Bytes}
use Rattle.bits.proofs.Order.{lt-or-le}
use Rattle.groups.specs.Header as header
use Rattle.groups.specs.Content.{bit_of, header_of, content_of, switches_of, name_address, text_address, text_flag}
use Rattle.groups.specs.declared.fields.Switches.{Switches}
use Rattle.groups.specs.declared.fields.Content.TheVariants.{Name0A, Text2A}
use Rattle.groups.proofs.RoundTrip.{Words}
use Rattle.groups.proofs.Contents.{content_0A, content_2A}
use Rattle.keys.specs.Fields.{pi_of, pty_of, tp_of, name_pair_of, text_pair_of}
use Rattle.keys.specs.Wanted.{name_addresses, all_addresses}
use Rattle.keys.specs.Good.{most_pty}
use Rattle.keys.proofs.FieldLaws.{pi_lt, pty_lt, name_pair_lt, text_pair_lt}
use Rattle.encoder.specs.Words.{name_type, text_type, no_frequencies, tp_bit, word2_of, name_words, text_words, words_at}

-- ---- which words they are

module _ (k : List ℕ) (a : ℕ) where
  pub words_name : a < name_addresses → words_at k a ≡ name_words k a
  unfolding words_at
  words_name h = rw (lt-ltb a name_addresses h)

  pub words_text : name_addresses ≤ a → words_at k a ≡ text_words k (a - name_addresses)
  unfolding words_at
  words_text h = rw (le-ltb a name_addresses h)

  -- word 1 is PI
  pub words_pi : get_or (words_at k a) 0 0 ≡ pi_of k
  unfolding words_at name_words text_words
  words_pi = by_test (ltb a name_addresses)
    where
      by_test : (b : Bool) → get_or (cond b (name_words k a) (text_words k (a - name_addresses))) 0 0 ≡ pi_of k
      by_test true = refl
      by_test false = refl

-- ---- word 2: its fields are digits of a sum

tp-bit_most : (k : List ℕ) → tp_bit k ≤ 1
tp-bit_most k = by_test (tp_of k)
  where
    by_test : (b : Bool) → cond b 1 0 ≤ 1
    by_test true = omega arith
    by_test false = omega arith

tp-bit-eqb : (b : Bool) → eqb (cond b 1 0) 1 ≡ b
tp-bit-eqb true = refl
tp-bit-eqb false = refl

module _ (type : ℕ) (k : List ℕ) (low : ℕ) (pty : pty_of k ≤ most_pty) (five : low < 2 ^ 5) where
  pub word2_type : header.type_of (word2_of type k low) ≡ type
  unfolding word2_of
  word2_type = omega (arith, tp-bit_most k)

  pub word2_version : header.version_of (word2_of type k low) ≡ 0
  unfolding word2_of
  word2_version = omega (arith, tp-bit_most k)

  pub word2_top : word2_of type k low / 2 ^ 11 ≡ 2 * type
  unfolding word2_of
  word2_top = omega (arith, tp-bit_most k)

  pub word2_tp : header.tp_of (word2_of type k low) ≡ tp_bit k
  unfolding word2_of
  word2_tp = omega (arith, tp-bit_most k)

  pub word2_pty : header.pty_of (word2_of type k low) ≡ pty_of k
  unfolding word2_of
  word2_pty = omega (arith, tp-bit_most k)

  pub word2_low : header.low_of (word2_of type k low) ≡ low
  unfolding word2_of
  word2_low = omega (arith, tp-bit_most k)

  pub word2_tp_bit : bit_of (word2_of type k low) 10 ≡ tp_of k
  word2_tp_bit = ap (λ (n : ℕ). eqb n 1) word2_tp ∙ tp-bit-eqb (tp_of k)

  -- the whole header
  pub word2_header : header_of (pi_of k) (word2_of type k low)
      ≡ record { pi = pi_of k; number = type; version = 0; tp = tp_of k; pty = pty_of k; low = low }
  unfolding header_of
  word2_header = rw (word2_tp_bit, word2_type, word2_version, word2_pty, word2_low)

-- ---- 16 bits each

word2-lt : (type : ℕ) (k : List ℕ) (low : ℕ) → type ≤ text_type → pty_of k < 256 → low < 2 ^ 5
    → word2_of type k low < 65536
unfolding word2_of
word2-lt type k low t p l = omega (arith, tp-bit_most k)

four-lt : (a b c d : ℕ) → a < 65536 → b < 65536 → c < 65536 → d < 65536 → Words (a ∷ b ∷ c ∷ d ∷ [])
four-lt a b c d p q r s zero = p
four-lt a b c d p q r s (suc zero) = q
four-lt a b c d p q r s (suc (suc zero)) = r
four-lt a b c d p q r s (suc (suc (suc zero))) = s
four-lt a b c d p q r s (suc (suc (suc (suc i)))) = omega arith

module _ (k : List ℕ) (bytes : Bytes k) (a : ℕ) where
  name-words-lt : a < name_addresses → Words (name_words k a)
  unfolding name_words
  name-words-lt h =
      four-lt _ _ _ _ (pi_lt k bytes) (word2-lt name_type k _ (omega arith) (pty_lt k bytes) (omega arith)) (omega arith)
      (name_pair_lt k bytes _)

  text-words-lt : a < all_addresses - name_addresses → Words (text_words k a)
  unfolding text_words
  text-words-lt h =
      four-lt _ _ _ _ (pi_lt k bytes) (word2-lt text_type k _ (omega arith) (pty_lt k bytes) (omega arith))
      (text_pair_lt k bytes _) (text_pair_lt k bytes _)

-- of a key of bytes, at every address
pub words-lt : (k : List ℕ) → Bytes k → (a : ℕ) → a < all_addresses → Words (words_at k a)
words-lt k bytes a h =
    ⊎_elim (λ name. rw (words_name k a name) (name-words-lt k bytes a name))
    (λ text. rw (words_text k a text) (text-words-lt k bytes (a - name_addresses) (omega arith)))
    (lt-or-le a name_addresses)

-- ---- what a reader of groups finds in them, where PTY is at most 31

-- TA, M/S, DI 0
abbrev pub all_off : Switches
all_off = record { ta = false; ms = false; di = false }

module _ (k : List ℕ) (a : ℕ) where
  pub name_word2 : a < name_addresses → get_or (words_at k a) 1 0 ≡ word2_of name_type k a
  unfolding name_words
  name_word2 name = ap (λ (words : List ℕ). get_or words 1 0) (words_name k a name)

  pub text_word2 : name_addresses ≤ a → get_or (words_at k a) 1 0 ≡ word2_of text_type k (a - name_addresses)
  unfolding text_words
  text_word2 text = ap (λ (words : List ℕ). get_or words 1 0) (words_text k a text)

-- at every address
module _ (k : List ℕ) (pty : pty_of k ≤ most_pty) (a : ℕ) (address : a < all_addresses) where
  -- what holds of word 2 for every type and five low bits
  at-word2 : (P : ℕ → Type 0) → ((type low : ℕ) → low < 2 ^ 5 → P (word2_of type k low)) → P (get_or (words_at k a) 1 0)
  at-word2 P each =
      ⊎_elim (λ name. rw (name_word2 k a name) (each name_type a (omega arith)))
      (λ text. rw (text_word2 k a text) (each text_type (a - name_addresses) (omega arith)))
      (lt-or-le a name_addresses)

  pub words_version : header.version_of (get_or (words_at k a) 1 0) ≡ 0
  words_version = at-word2 (λ w. header.version_of w ≡ 0) (λ type low five. word2_version type k low pty five)

  pub words_tp : header.tp_of (get_or (words_at k a) 1 0) ≡ tp_bit k
  words_tp = at-word2 (λ w. header.tp_of w ≡ tp_bit k) (λ type low five. word2_tp type k low pty five)

  pub words_tp_bit : bit_of (get_or (words_at k a) 1 0) 10 ≡ tp_of k
  words_tp_bit = at-word2 (λ w. bit_of w 10 ≡ tp_of k) (λ type low five. word2_tp_bit type k low pty five)

  pub words_pty : header.pty_of (get_or (words_at k a) 1 0) ≡ pty_of k
  words_pty = at-word2 (λ w. header.pty_of w ≡ pty_of k) (λ type low five. word2_pty type k low pty five)

-- at a name address: 0A with TA, M/S, DI 0 and this address
module _ (k : List ℕ) (pty : pty_of k ≤ most_pty) (a : ℕ) (name : a < name_addresses) where
  pub name_top : get_or (words_at k a) 1 0 / 2 ^ 11 ≡ 0
  name_top = rw (name_word2 k a name) (word2_top name_type k a pty (omega arith))

  pub name_low : header.low_of (get_or (words_at k a) 1 0) ≡ a
  name_low = rw (name_word2 k a name) (word2_low name_type k a pty (omega arith))

  pub name_address_lem : name_address (get_or (words_at k a) 1 0) ≡ a
  name_address_lem = omega (arith, name_low)

  pub name_switches : switches_of (get_or (words_at k a) 1 0) ≡ all_off
  name_switches =
      let w : ℕ = get_or (words_at k a) 1 0 in
      let ta : w / 2 ^ 4 % 2 ≡ 0 = omega (arith, name_low) in
      let ms : w / 2 ^ 3 % 2 ≡ 0 = omega (arith, name_low) in
      let di : w / 2 ^ 2 % 2 ≡ 0 = omega (arith, name_low) in
      rw (ta, ms, di)

  pub name_word3 : get_or (words_at k a) 2 0 ≡ no_frequencies
  unfolding name_words
  name_word3 = ap (λ (words : List ℕ). get_or words 2 0) (words_name k a name)

  pub name_word4 : get_or (words_at k a) 3 0 ≡ name_pair_of k a
  unfolding name_words
  name_word4 = ap (λ (words : List ℕ). get_or words 3 0) (words_name k a name)

  pub name_content : content_of (get_or (words_at k a) 1 0) (get_or (words_at k a) 2 0) (get_or (words_at k a) 3 0)
      ≡ Name0A all_off a no_frequencies (name_pair_of k a)
  name_content =
      content_0A (get_or (words_at k a) 1 0) (get_or (words_at k a) 2 0) (get_or (words_at k a) 3 0) name_top
      ∙ rw (name_switches, name_address_lem, name_word3, name_word4)

-- at a text address: 2A with flag 0 and the address from 0
module _ (k : List ℕ) (pty : pty_of k ≤ most_pty) (a : ℕ) (text : name_addresses ≤ a) where
  pub text_word3 : get_or (words_at k a) 2 0 ≡ text_pair_of k (2 * (a - name_addresses))
  unfolding text_words
  text_word3 = ap (λ (words : List ℕ). get_or words 2 0) (words_text k a text)

  pub text_word4 : get_or (words_at k a) 3 0 ≡ text_pair_of k (2 * (a - name_addresses) + 1)
  unfolding text_words
  text_word4 = ap (λ (words : List ℕ). get_or words 3 0) (words_text k a text)

  module _ (address : a < all_addresses) where
    pub text_top : get_or (words_at k a) 1 0 / 2 ^ 11 ≡ 4
    text_top = rw (text_word2 k a text) (word2_top text_type k (a - name_addresses) pty (omega arith))

    pub text_low : header.low_of (get_or (words_at k a) 1 0) ≡ a - name_addresses
    text_low = rw (text_word2 k a text) (word2_low text_type k (a - name_addresses) pty (omega arith))

    pub text_address_lem : text_address (get_or (words_at k a) 1 0) ≡ a - name_addresses
    text_address_lem = omega (arith, text_low)

    pub text_flag_lem : text_flag (get_or (words_at k a) 1 0) ≡ false
    text_flag_lem = let flag : get_or (words_at k a) 1 0 / 2 ^ 4 % 2 ≡ 0 = omega (arith, text_low) in rw flag

    pub text_content : content_of (get_or (words_at k a) 1 0) (get_or (words_at k a) 2 0) (get_or (words_at k a) 3 0)
        ≡ Text2A false (a - name_addresses) (text_pair_of k (2 * (a - name_addresses)))
        (text_pair_of k (2 * (a - name_addresses) + 1))
    text_content =
        content_2A (get_or (words_at k a) 1 0) (get_or (words_at k a) 2 0) (get_or (words_at k a) 3 0) text_top
        ∙ rw (text_flag_lem, text_address_lem, text_word3, text_word4)
