-- What the encoder writes for any good key is marked Passed: group g of an encoding brings address g of the key, so
-- that each of the marking rules holds of it.
use Prim.Native.Nat.{ℕ, ◌+◌, ◌*◌, ◌-◌, ◌/◌, ◌%◌, ◌<◌, ◌≤◌}
use mathlib.Core.Path.{◌≡◌, sym, ap, ◌∙◌}
use mathlib.Core.List.{List}
use mathlib.Core.Bool.{true, false}
use mathlib.Core.Logic.{⊎_elim}
use native.Mathlib.Omega.{arith}
use lib.ListN.{length, get_or}
use Rattle.bits.specs.Bytes.{Bytes}
use Rattle.bits.proofs.Order.{lt-or-le}
use Rattle.blocks.specs.Block.{judge_of}
use Rattle.blocks.proofs.Reading.{judged-valid}
use Rattle.groups.specs.Header.{type_of, version_of, expected_of}
use Rattle.groups.specs.Content.{name_address, text_address, text_flag}
use Rattle.groups.specs.Written.{block_in}
use Rattle.keys.specs.Sheet.{HasExercise, key_at}
use Rattle.keys.specs.Good.{GoodKey}
use Rattle.keys.specs.Wanted.{name_addresses, all_addresses, addresses_of, wanted_address}
use Rattle.keys.proofs.SheetLaws.{key_bytes}
use Rattle.keys.proofs.WantedLaws.{address_wanted, wanted_address_lem, addresses_least, addresses_most}
use Rattle.encoder.specs.Words.{words_at}
use Rattle.encoder.specs.Encoding.{encoding, sent_of}
use Rattle.encoder.proofs.WordLaws.{words_pi, words_version, words_tp_bit, words_pty, name_top, name_address_lem}
use Rattle.encoder.proofs.WordLaws.{name_word4}
use Rattle.encoder.proofs.WordLaws.{text_top, text_address_lem, text_flag_lem, text_word3, text_word4}
use Rattle.encoder.proofs.SentLaws.{length_sent, sent_at, sent_lt}
use Rattle.encoder.proofs.EncodingLaws.{length_encoding, word_at_lem, judged_at_lem}
use Rattle.marker.specs.declared.Verdict.TheVariants.{Passed}
use Rattle.marker.specs.Submission.{groups_in, blocks_in, word_at}
use Rattle.marker.specs.Mark.{mark_of}
use Rattle.marker.specs.Rules.{GoodLength, BlockRight, Is2A, HeaderRight, NameRight, TextRight}
use Rattle.marker.specs.Rules.{TextWanted, Came, name, text, Rules}
use Rattle.marker.proofs.TableLaws.{rules_passed}

module _ (k : List ℕ) (bytes : Bytes k) (good : GoodKey k) where
  -- what the encoder writes
  abbrev written : List ℕ
  written = encoding k (sent_of k)

  long : length written ≡ 13 * addresses_of k
  long = length_encoding k (sent_of k) ∙ ap (λ (n : ℕ). 13 * n) (length_sent k)

  groups : groups_in written ≡ addresses_of k
  groups = omega (arith, long)

  module _ (g : ℕ) (below : g < groups_in written) where
    there : g < addresses_of k
    there = omega (arith, groups)

    sent : g < length (sent_of k)
    sent = omega (arith, there, length_sent k)

    address : g < all_addresses
    address = omega (arith, there, addresses_most k)

    word : (p : ℕ) → p < 4 → word_at written g p ≡ get_or (words_at k g) p 0
    word p l =
        word_at_lem k (sent_of k) g sent bytes (sent_lt k g) p l
        ∙ ap (λ (a : ℕ). get_or (words_at k a) p 0) (sent_at k g there)

    version : version_of (word_at written g 1) ≡ 0
    version = rw (word 1 (omega arith)) (words_version k good.pty_most g address)

    header : HeaderRight k written g
    header =
        record {
          pi = word 0 (omega arith) ∙ words_pi k g;
          tp = rw (word 1 (omega arith)) (words_tp_bit k good.pty_most g address);
          pty = rw (word 1 (omega arith)) (words_pty k good.pty_most g address);
          third = λ v. absurd (omega (arith, version));
        }

    -- the first four bring the name
    module _ (a-name : g < name_addresses) where
      name-type : type_of (word_at written g 1) ≡ 0
      name-type = rw (word 1 (omega arith)) (omega (arith, name_top k good.pty_most g a-name))

      name-at : name_address (word_at written g 1) ≡ g
      name-at = rw (word 1 (omega arith)) (name_address_lem k good.pty_most g a-name)

    -- the others the text
    module _ (a-text : name_addresses ≤ g) where
      text-type : type_of (word_at written g 1) ≡ 2
      text-type = rw (word 1 (omega arith)) (omega (arith, text_top k good.pty_most g a-text address))

      text_at : text_address (word_at written g 1) ≡ g - 4
      text_at = rw (word 1 (omega arith)) (text_address_lem k good.pty_most g a-text address)

      flag_off : text_flag (word_at written g 1) ≡ false
      flag_off = rw (word 1 (omega arith)) (text_flag_lem k good.pty_most g a-text address)

    name-right : NameRight k written g
    name-right n =
        ⊎_elim (λ l. rw (name-at l, word 3 (omega arith)) (name_word4 k good.pty_most g l))
        (λ l. absurd (omega (arith, n, text-type l))) (lt-or-le g name_addresses)

    -- a 2A is no name
    a_2A_text : Is2A written g → name_addresses ≤ g
    a_2A_text t = ⊎_elim (λ l. absurd (omega (arith, t.0, name-type l))) (λ l. l) (lt-or-le g name_addresses)

    text-right : TextRight k written g
    text-right t =
        let l = a_2A_text t in (
          rw (text_at l, word 2 (omega arith)) (text_word3 k good.pty_most g l),
          rw (text_at l, word 3 (omega arith)) (text_word4 k good.pty_most g l),
        )

    text-wanted : TextWanted k written g
    text-wanted t =
        let l = a_2A_text t in
        let a : 4 + (g - 4) ≡ g = omega arith in
        rw (text_at l, a) (address_wanted k g there)

    flag-right : Is2A written g → text_flag (word_at written g 1) ≡ false
    flag-right t = flag_off (a_2A_text t)

  block_right : (j : ℕ) → j < blocks_in written → BlockRight written j
  block_right j l =
      let g : ℕ = j / 4 in
      let below : g < groups_in written = omega arith in
      let place : 4 * g + j % 4 ≡ j = omega arith in
      (judged-valid (block_in written j) _ (expected_of (j % 4) (word_at written g 1))
      (ap (λ (i : ℕ). judge_of (block_in written i) (expected_of (j % 4) (word_at written g 1))) (sym place)
      ∙ judged_at_lem k (sent_of k) g (sent g below) bytes (sent_lt k g) (j % 4) (omega arith))).1

  came : (a : ℕ) → wanted_address k a ≡ true → Came written a
  came a w =
      let below : a < groups_in written = omega (arith, groups, wanted_address_lem k a w) in
      ⊎_elim (λ l. (a, below, name (name-type a below l) (name-at a below l)))
      (λ l. (a, below, text (text-type a below l, version a below) (omega (arith, text_at a below l))))
      (lt-or-le a name_addresses)

  pub encoding_length : GoodLength written
  encoding_length =
      record {
        groups = addresses_of k;
        whole = long;
        some = omega (arith, addresses_least k);
        few = omega (arith, long, addresses_most k);
      }

  pub encoding_rules : Rules k written
  encoding_rules =
      record {
        blocks = block_right;
        headers = header;
        names = name-right;
        texts = text-right;
        wanted = text-wanted;
        no_2B = λ g l t. omega (arith, version g l, t.1);
        flags = λ g h l m t u. flag-right g l t ∙ sym (flag-right h m u);
        came = came;
      }

-- what the encoder writes for any good key passes
pub encoding_passes : (sheet : List ℕ) (n : ℕ) → Bytes sheet → HasExercise sheet n → GoodKey (key_at sheet n)
    → mark_of sheet n (encoding (key_at sheet n) (sent_of (key_at sheet n))) ≡ Passed
encoding_passes sheet n bytes there good =
    let k : List ℕ = key_at sheet n in
    let key : Bytes k = key_bytes sheet n bytes in
    rules_passed sheet n (encoding k (sent_of k)) ((there, good), encoding_length k key good, encoding_rules k key good)
