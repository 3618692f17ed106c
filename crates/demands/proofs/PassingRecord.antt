-- A passed submission leaves a record that holds the key: every group heard says what the key says, and every wanted
-- address came, so that the station's laws on such groups give the header, the whole name and the whole text.
use Prim.Native.Nat.{ℕ, ◌+◌, ◌/◌, ◌≤◌, ◌<◌}
use mathlib.Core.Path.{◌≡◌, sym, ap, ◌∙◌}
use mathlib.Core.List.{List, []}
use mathlib.Core.Bool.{Bool, true, true≢false}
use native.Mathlib.Omega.{arith}
use lib.ListN.{length, take, drop, replicate, length-drop}
use lib.Seq.{length-take-le}
use Rattle.bits.specs.Bytes.{bit_at, Bytes}
use Rattle.groups.specs.declared.Group.{Group}
use Rattle.groups.specs.Content.{text_flag}
use Rattle.history.specs.Streams.{sent_groups}
use Rattle.std.specs.Prelude.{Some}
use Rattle.station.specs.Record.{fresh_of as fresh_record}
use Rattle.station.specs.Update.{updated_all}
use Rattle.station.specs.History.{some, carried_in, has_name, has_text}
use Rattle.station.specs.Whole.{Every, SaysHeader, SaysName, NameCame, SaysText, TextCame}
use Rattle.station.proofs.Whole.{header_held, name_held, text_held}
use Rattle.keys.specs.Sheet.{key_at}
use Rattle.keys.specs.Fields.{text_pairs, pi_of, pty_of, tp_of, wanted_of}
use Rattle.keys.proofs.SheetLaws.{key_length, key_bytes}
use Rattle.keys.proofs.WantedLaws.{address_wanted, addresses_wanted, addresses_least}
use Rattle.marker.specs.Submission.{groups_in, word_at}
use Rattle.marker.specs.Rules.{Is2A, name, text, Came, Rules}
use Rattle.demands.specs.Passing.{name_of, text_of, HoldsKey, RecordHoldsKey}
use Rattle.demands.proofs.PassingExactly.{passed_exactly}
use Rattle.demands.proofs.PassingHeard.{groups_heard_lem, every_sent, some_sent}
use Rattle.demands.proofs.PassingSays.{name_has, text_has, says_header, says_name, says_text}

-- a part of a key is as long as it is to be
length_part : (k : List ℕ) (place size : ℕ) → length k ≡ 80 → place + size ≤ 80
    → length (take size (drop place k)) ≡ size
length_part k place size long h = length-take-le size (drop place k) (rw length-drop (omega arith))

module _ (k s : List ℕ) (bytes : Bytes k) (long : length k ≡ 80) (rules : Rules k s) where
  -- the groups of the submission
  abbrev groups : List Group
  groups = sent_groups (bit_at s) 0 (groups_in s)

  headers-said : Every (SaysHeader (pi_of k) (pty_of k) (tp_of k)) groups
  headers-said = every_sent s _ (groups_in s) (λ g l. says_header k s g (rules.headers g l))

  names-said : Every (SaysName (name_of k)) groups
  names-said = every_sent s _ (groups_in s) (λ g l. says_name k s g bytes (rules.names g l))

  -- the lowest four addresses are the name's
  name-came : NameCame groups
  name-came p h = brought (rules.came p (address_wanted k p (omega (arith, addresses_least k))))
    where
      brought : Came s p → some (λ x. has_name p (carried_in x)) groups ≡ true
      brought (g, l, name n e) = some_sent s (λ x. has_name p (carried_in x)) (groups_in s) g l (name_has s g p n e)
      brought (g, l, text t e) = absurd (omega arith)

  some-group : groups ≡ [] → ⊥
  unfolding some
  some-group e =
      let came = name-came 0 (omega arith) in
      true≢false (sym came ∙ ap (some (λ x. has_name 0 (carried_in x))) e)

  module _ (wanted : wanted_of k ≡ true) where
    text-address-came : (a : ℕ) → a < 16 → Came s (4 + a)
    text-address-came a h = rules.came (4 + a) (address_wanted k (4 + a) (omega (arith, addresses_wanted k wanted)))

    -- a 2A that came
    some_2A : (h : ℕ) × (h < groups_in s) × Is2A s h
    some_2A = brought (text-address-came 0 (omega arith))
      where
        brought : Came s 4 → (h : ℕ) × (h < groups_in s) × Is2A s h
        brought (g, l, name n e) = absurd (omega arith)
        brought (g, l, text t e) = (g, l, t)

    -- and its flag, which is that of all
    abbrev flag : Bool
    flag = text_flag (word_at s some_2A.0 1)

    texts-said : Every (SaysText flag (text_of k)) groups
    texts-said =
        every_sent s _ (groups_in s)
        (λ g l. says_text k s g bytes flag (rules.texts g l) (rules.no_2B g l)
        (λ t. rules.flags g some_2A.0 l some_2A.1 t some_2A.2))

    -- each text address is two pairs
    text-came : TextCame groups
    text-came p h = brought (text-address-came (p / 2) (omega arith))
      where
        brought : Came s (4 + p / 2) → some (λ x. has_text p (carried_in x)) groups ≡ true
        brought (g, l, name n e) = absurd (omega arith)
        brought (g, l, text t e) =
            some_sent s (λ x. has_text p (carried_in x)) (groups_in s) g l (text_has s g p t (omega arith))

    text_is : ((updated_all fresh_record groups).text.pairs.characters ≡ text_of k)
        × ((updated_all fresh_record groups).text.pairs.seen ≡ replicate text_pairs true)
        × ((updated_all fresh_record groups).text.flag ≡ Some flag)
    text_is =
        text_held groups (pi_of k) (pty_of k) (tp_of k) headers-said flag (text_of k)
        (length_part k 12 64 long (omega arith)) texts-said text-came

  groups-hold : HoldsKey k (updated_all fresh_record groups)
  groups-hold =
      let header = header_held groups (pi_of k) (pty_of k) (tp_of k) headers-said some-group in
      let held =
      name_held groups (pi_of k) (pty_of k) (tp_of k) headers-said (name_of k) (length_part k 4 8 long (omega arith))
      names-said name-came in
      record {
        pi = header.0;
        pty = header.1;
        tp = header.2;
        name = held.0;
        name_seen = held.1;
        text = λ w. (text_is w).0;
        text_seen = λ w. (text_is w).1;
      }

pub record-holds_key : RecordHoldsKey
record-holds_key sheet n s bytes passed =
    let told = (passed_exactly sheet n s).0 passed in
    let k : List ℕ = key_at sheet n in
    rw (groups_heard_lem s told.1 told.2.blocks)
    (groups-hold k s (key_bytes sheet n bytes) (key_length sheet n told.0.0) told.2)
