-- The record taken from the fresh one, group by group, is what is said of all groups that came. One group more changes
-- each part as the rule for that part says.
use Prim.Native.Nat.{ℕ, ◌/◌, ◌<◌}
use mathlib.Core.Path.{◌≡◌, refl, sym, ap, ◌∙◌}
use mathlib.Core.Bool.{Bool, true, false, cond, ◌&&◌, beq, true≢false, false≢true}
use mathlib.Core.List.{List, [], ◌∷◌, ◌++◌, map, append-nil, append_assoc}
use mathlib.Core.Logic.{◌⊎◌, inl, inr}
use native.Mathlib.Decide.{ℕ_discrete}
use native.Mathlib.Omega.{arith}
use Rattle.std.specs.Prelude.{Option, Some, None}
use Rattle.frequencies.specs.declared.AfList.{AfList}
use Rattle.frequencies.specs.AfList.{taken_of}
use Rattle.frequencies.specs.AfHistory.{af_after, taken_all}
use Rattle.frequencies.proofs.AfLaws.{words_taken, word_more}
use Rattle.clock.specs.declared.Clock.{Clock}
use Rattle.clock.specs.Range.{in_range}
use Rattle.clock.specs.Words.{clock_in, read_of}
use Rattle.groups.specs.declared.Group.{Group}
use Rattle.groups.specs.declared.fields.Content.{Content}
use Rattle.groups.specs.declared.fields.Content.TheVariants.{Name0A, Name0B, Text2A, Text2B, Clock4A, Other}
use Rattle.groups.specs.Group.{word_of, counts_of}
use Rattle.station.specs.declared.Text.{Text}
use Rattle.station.specs.declared.Record.{Record}
use Rattle.station.specs.Record.{space, name_size, name_pairs, text_size, text_pairs, no_name, no_text}
use Rattle.station.specs.Record.{fresh_with, fresh_of}
use Rattle.station.specs.Update.{name_after, text_for, text_after, af_list_after, clock_or, clock_after, held_for}
use Rattle.station.specs.Update.{filled_of, updated_of, updated_all}
use Rattle.station.specs.History.{those, some, each, latest, since_change, listed}
use Rattle.station.specs.History.{pi_in, pty_in, tp_in, carried_in, character_of, has_name, name_word, is_text, flag_of}
use Rattle.station.specs.History.{has_text, text_word, has_af, af_word_of, is_clock, clock_of, name_character, name_seen}
use Rattle.station.specs.History.{name_over, text_groups, flag_number, since_flag, text_character, text_seen, last_flag}
use Rattle.station.specs.History.{text_over, af_words, clock_over, record_over, counting, last_pi, record_after}
use Rattle.station.proofs.Holding.{updated_counted, updated_kept, held_same, held_other, held_none}
use Rattle.station.proofs.Holding.{beq_same, text_kept, text_other, text_none}
use Rattle.station.proofs.Lists.{those_more, those_same, some_more, latest_more, latest_those, listed_same}
use Rattle.station.proofs.Runs.{Ended, ended, since_same, since_other}
use Rattle.station.proofs.Storing.{name-taken, text_said, text_unchanged, text_taken}

-- ---- AF and clock, by the content

af-given : (list : AfList) (k : Content) → has_af k ≡ true → af_list_after list k ≡ taken_of list (af_word_of k)
unfolding af_list_after has_af af_word_of
af-given list (Name0A switches a af pair) e = refl
af-given list (Name0B switches a pair) e = absurd (false≢true e)
af-given list (Text2A flag a first second) e = absurd (false≢true e)
af-given list (Text2B flag a pair) e = absurd (false≢true e)
af-given list Clock4A e = absurd (false≢true e)
af-given list Other e = absurd (false≢true e)

af_kept : (list : AfList) (k : Content) → has_af k ≡ false → af_list_after list k ≡ list
unfolding af_list_after has_af
af_kept list (Name0A switches a af pair) e = absurd (true≢false e)
af_kept list (Name0B switches a pair) e = refl
af_kept list (Text2A flag a first second) e = refl
af_kept list (Text2B flag a pair) e = refl
af_kept list Clock4A e = refl
af_kept list Other e = refl

module _ (held : Option Clock) (word2 word3 word4 : ℕ) where
  clock-read :
      clock_or (read_of word2 word3 word4) held
      ≡ cond (in_range (clock_in word2 word3 word4)) (Some (clock_in word2 word3 word4)) held
  unfolding clock_or read_of
  clock-read = by_test (in_range (clock_in word2 word3 word4)) refl
    where
      by_test :
          (t : Bool) → in_range (clock_in word2 word3 word4) ≡ t →
          clock_or (read_of word2 word3 word4) held
          ≡ cond (in_range (clock_in word2 word3 word4)) (Some (clock_in word2 word3 word4)) held
      by_test true e = rw e
      by_test false e = rw e

  clock-taken : (k : Content) →
      clock_after held k word2 word3 word4
      ≡ cond (is_clock k && in_range (clock_in word2 word3 word4)) (Some (clock_in word2 word3 word4)) held
  unfolding clock_after is_clock
  clock-taken (Name0A switches a af pair) = refl
  clock-taken (Name0B switches a pair) = refl
  clock-taken (Text2A flag a first second) = refl
  clock-taken (Text2B flag a pair) = refl
  clock-taken Clock4A = clock-read
  clock-taken Other = refl

map-end : (f : Group → ℕ) (gs : List Group) (g : Group) → map f (gs ++ g ∷ []) ≡ map f gs ++ f g ∷ []
map-end f [] g = refl
map-end f (h ∷ gs) g = ap (λ (l : List ℕ). f h ∷ l) (map-end f gs g)

-- two flags that are told apart have different numbers
flags_differ : (a b : Bool) → beq a b ≡ false → ◌≡◌ {A = ℕ} (cond a 1 0) (cond b 1 0) → ⊥
flags_differ true true e same = true≢false e
flags_differ true false e same = omega arith
flags_differ false true e same = omega arith
flags_differ false false e same = true≢false e

-- ---- one group more, part by part

-- the text of some text groups, with a flag
abbrev text_parts : List Group → Option Bool → Text
text_parts gs flag = text_said (text_character gs) (text_seen gs) flag

module _ (g : Group) where
  name-more : (gs : List Group) → name_after (name_over gs) (carried_in g) ≡ name_over (gs ++ g ∷ [])
  unfolding name_over
  name-more gs =
      name-taken (carried_in g) (name_character gs) (name_seen gs)
      ∙ (λ i. record { characters = listed_same name_size _ _ character i; seen = listed_same name_pairs _ _ mark i })
    where
      character : (i : ℕ) → i < name_size →
          cond (has_name (i / 2) (carried_in g)) (character_of i (name_word (carried_in g))) (name_character gs i)
          ≡ name_character (gs ++ g ∷ []) i
      character i h =
          let has : Group → Bool = λ x. has_name (i / 2) (carried_in x) in
          sym (latest_those (λ x. character_of i (name_word (carried_in x))) g space has gs)

      mark : (p : ℕ) → p < name_pairs →
          cond (has_name p (carried_in g)) true (name_seen gs p) ≡ name_seen (gs ++ g ∷ []) p
      mark p h = sym (some_more (λ x. has_name p (carried_in x)) g gs)

  stored_more : (gs : List Group) (flag : Option Bool) (text : Text) → is_text (carried_in g) ≡ true →
      text_for text (flag_of (carried_in g)) ≡ text_parts gs flag →
      text_after text (carried_in g) ≡ text_parts (gs ++ g ∷ []) flag
  stored_more gs flag text is left =
      text_taken (text_character gs) (text_seen gs) flag text (carried_in g) is left
      ∙ (λ i. record {
        pairs = record { characters = listed_same text_size _ _ character i; seen = listed_same text_pairs _ _ mark i };
        flag = flag;
      })
    where
      character : (i : ℕ) → i < text_size →
          cond (has_text (i / 2) (carried_in g)) (character_of i (text_word (i / 2) (carried_in g))) (text_character gs i)
          ≡ text_character (gs ++ g ∷ []) i
      character i h =
          let has : Group → Bool = λ x. has_text (i / 2) (carried_in x) in
          sym (latest_those (λ x. character_of i (text_word (i / 2) (carried_in x))) g space has gs)

      mark : (p : ℕ) → p < text_pairs →
          cond (has_text p (carried_in g)) true (text_seen gs p) ≡ text_seen (gs ++ g ∷ []) p
      mark p h = sym (some_more (λ x. has_text p (carried_in x)) g gs)

  -- the text groups that the text is said of before this group is stored
  record Begun (gs : List Group) : Type 0 where
    pub groups : List Group
    pub cleared : text_for (text_over gs) (flag_of (carried_in g)) ≡ text_parts groups (Some (flag_of (carried_in g)))
    pub more : since_flag (gs ++ g ∷ []) ≡ groups ++ g ∷ []

  no-parts : (flag : Option Bool) → no_text flag ≡ text_parts [] flag
  unfolding listed latest those some
  no-parts flag = refl

  module _ (gs : List Group) (is-text : is_text (carried_in g) ≡ true) where
    groups-more : text_groups (gs ++ g ∷ []) ≡ text_groups gs ++ g ∷ []
    groups-more = those_more (λ x. is_text (carried_in x)) g gs is-text

    none-begun : text_groups gs ≡ [] → Begun gs
    unfolding text_over since_change each latest
    none-begun e =
        record {
          groups = since_flag gs;
          cleared = text_none (text_over gs) (flag_of (carried_in g)) (ap last_flag e);
          more = rw (groups-more, e);
        }

    module _ (end : Ended (text_groups gs)) where
      -- the flag of this group, and that of the last text group before it
      abbrev new : Bool
      new = flag_of (carried_in g)

      abbrev old : Bool
      old = flag_of (carried_in end.last)

      flag-held : (text_over gs).flag ≡ Some old
      unfolding text_over
      flag-held =
          ap last_flag end.is
          ∙ latest_more (λ x. Some (flag_of (carried_in x))) end.last None end.before

      same-begun : beq old new ≡ true → Begun gs
      unfolding text_over
      same-begun same =
          let number = ap {B = ℕ} (λ (f : Bool). cond f 1 0) (beq_same old new same) in
          record {
            groups = since_flag gs;
            cleared = text_kept (text_over gs) new old flag-held same;
            more = rw (groups-more, end.is) (since_same flag_number end.last g end.before number);
          }

      other-begun : beq old new ≡ false → Begun gs
      other-begun other =
          let number = flags_differ old new other in
          record {
            groups = [];
            cleared = text_other (text_over gs) new old flag-held other ∙ no-parts (Some new);
            more = rw (groups-more, end.is) (since_other flag_number end.last g end.before number);
          }

      by_flag : (t : Bool) → beq old new ≡ t → Begun gs
      by_flag true same = same-begun same
      by_flag false other = other-begun other

    begun : Begun gs
    begun = by_last (ended (text_groups gs))
      where
        by_last : (text_groups gs ≡ []) ⊎ Ended (text_groups gs) → Begun gs
        by_last (inl e) = none-begun e
        by_last (inr end) = by_flag end (beq (flag_of (carried_in end.last)) (flag_of (carried_in g))) refl

    text-group-more : text_after (text_over gs) (carried_in g) ≡ text_over (gs ++ g ∷ [])
    unfolding text_over
    text-group-more =
        stored_more begun.groups (Some (flag_of (carried_in g))) (text_over gs) is-text begun.cleared
        ∙ sym (rw (begun.more, groups-more, latest_more (λ x. Some (flag_of (carried_in x))) g None (text_groups gs)))

  text-more : (gs : List Group) → text_after (text_over gs) (carried_in g) ≡ text_over (gs ++ g ∷ [])
  unfolding text_over
  text-more gs = by_test (is_text (carried_in g)) refl
    where
      by_test : (t : Bool) → is_text (carried_in g) ≡ t → text_after (text_over gs) (carried_in g) ≡ text_over (gs ++ g ∷ [])
      by_test true e = text-group-more gs e
      by_test false e =
          text_unchanged (text_over gs) (carried_in g) e ∙ sym (rw (those_same (λ x. is_text (carried_in x)) g gs e))

  af-more : (gs : List Group) → af_list_after (af_after (af_words gs)) (carried_in g) ≡ af_after (af_words (gs ++ g ∷ []))
  unfolding af_words
  af-more gs = by_test (has_af (carried_in g)) refl
    where
      by_test : (t : Bool) → has_af (carried_in g) ≡ t →
          af_list_after (af_after (af_words gs)) (carried_in g) ≡ af_after (af_words (gs ++ g ∷ []))
      by_test true e =
          af-given (af_after (af_words gs)) (carried_in g) e
          ∙ sym (word_more (af_words gs) (af_word_of (carried_in g)))
          ∙ sym (rw (those_more (λ x. has_af (carried_in x)) g gs e, map-end))
      by_test false e =
          af_kept (af_after (af_words gs)) (carried_in g) e ∙ sym (rw (those_same (λ x. has_af (carried_in x)) g gs e))

  clock-more : (gs : List Group) →
      clock_after (clock_over gs) (carried_in g) (word_of g 1) (word_of g 2) (word_of g 3) ≡ clock_over (gs ++ g ∷ [])
  unfolding clock_over
  clock-more gs =
      clock-taken (clock_over gs) (word_of g 1) (word_of g 2) (word_of g 3) (carried_in g)
      ∙ sym
      (latest_those (λ x. Some (clock_of x)) g None (λ x. is_clock (carried_in x) && in_range (clock_of x)) gs)

  filled_more : (pi : Option ℕ) (gs : List Group) → filled_of (record_over pi gs) g ≡ record_over pi (gs ++ g ∷ [])
  unfolding filled_of record_over
  filled_more pi gs =
      λ i. record {
        pi = pi;
        pty = sym (latest_more pty_in g 0 gs) i;
        tp = sym (latest_more tp_in g false gs) i;
        name = name-more gs i;
        text = text-more gs i;
        af = af-more gs i;
        clock = clock-more gs i;
      }

-- ---- the whole record

-- no group says what the fresh record holds
over_none : (pi : Option ℕ) → fresh_with pi ≡ record_over pi []
unfolding record_over name_over text_over listed latest those some since_change af_words clock_over taken_all
over_none pi =
    λ i. record {
      pi = pi;
      pty = 0;
      tp = false;
      name = no_name;
      text = no_text None;
      af = words_taken [] i;
      clock = None;
    }

pi-over : (pi : Option ℕ) (gs : List Group) → (record_over pi gs).pi ≡ pi
unfolding record_over
pi-over pi gs = refl

-- the record of groups that count
abbrev over : List Group → Record
over gs = record_over (last_pi gs) (since_change pi_in gs)

module _ (g : Group) (gs : List Group) where
  -- the record begins anew
  anew : held_for (over gs) (pi_in g) ≡ fresh_with (Some (pi_in g)) → since_change pi_in (gs ++ g ∷ []) ≡ g ∷ [] →
      filled_of (held_for (over gs) (pi_in g)) g ≡ over (gs ++ g ∷ [])
  anew fresh since =
      ap (λ (r : Record). filled_of r g) (fresh ∙ over_none (Some (pi_in g)))
      ∙ filled_more g (Some (pi_in g)) []
      ∙ sym (rw (since, latest_more (λ x. Some (pi_in x)) g None gs))

  counted-first : gs ≡ [] → filled_of (held_for (over gs) (pi_in g)) g ≡ over (gs ++ g ∷ [])
  unfolding latest since_change each
  counted-first e =
      anew (held_none (over gs) (pi_in g) (pi-over (last_pi gs) (since_change pi_in gs) ∙ ap last_pi e)) (rw e)

  module _ (end : Ended gs) where
    pi-held : (over gs).pi ≡ Some (pi_in end.last)
    pi-held =
        pi-over (last_pi gs) (since_change pi_in gs)
        ∙ ap last_pi end.is
        ∙ latest_more (λ x. Some (pi_in x)) end.last None end.before

    counted_same : pi_in end.last ≡ pi_in g → filled_of (held_for (over gs) (pi_in g)) g ≡ over (gs ++ g ∷ [])
    counted_same same =
        ap (λ (r : Record). filled_of r g) (held_same (over gs) (pi_in g) (pi_in end.last) pi-held same)
        ∙ filled_more g (last_pi gs) (since_change pi_in gs)
        ∙ (λ i. record_over (pi-same i) (since i))
      where
        pi-same : last_pi gs ≡ last_pi (gs ++ g ∷ [])
        pi-same =
            sym (pi-over (last_pi gs) (since_change pi_in gs))
            ∙ pi-held
            ∙ ap Some same
            ∙ sym (latest_more (λ x. Some (pi_in x)) g None gs)

        since : since_change pi_in gs ++ g ∷ [] ≡ since_change pi_in (gs ++ g ∷ [])
        since = rw end.is (sym (since_same pi_in end.last g end.before same))

    counted-other : (pi_in end.last ≡ pi_in g → ⊥) → filled_of (held_for (over gs) (pi_in g)) g ≡ over (gs ++ g ∷ [])
    counted-other other =
        anew (held_other (over gs) (pi_in g) (pi_in end.last) pi-held other)
        (rw end.is (since_other pi_in end.last g end.before other))

  counted-more : filled_of (held_for (over gs) (pi_in g)) g ≡ over (gs ++ g ∷ [])
  counted-more = by_last (ended gs)
    where
      by-pi : (end : Ended gs) → Dec (pi_in end.last ≡ pi_in g) →
          filled_of (held_for (over gs) (pi_in g)) g ≡ over (gs ++ g ∷ [])
      by-pi end (yes same) = counted_same end same
      by-pi end (no other) = counted-other end other

      by_last : (gs ≡ []) ⊎ Ended gs → filled_of (held_for (over gs) (pi_in g)) g ≡ over (gs ++ g ∷ [])
      by_last (inl e) = counted-first e
      by_last (inr end) = by-pi end (ℕ_discrete (pi_in end.last) (pi_in g))

-- one group more is taken into what the groups before it gave
pub group-more : (gs : List Group) (g : Group) → updated_of (record_after gs) g ≡ record_after (gs ++ g ∷ [])
unfolding record_after
group-more gs g = by_test (counts_of g) refl
  where
    by_test : (t : Bool) → counts_of g ≡ t → updated_of (record_after gs) g ≡ record_after (gs ++ g ∷ [])
    by_test true e =
        updated_counted (record_after gs) g e ∙ counted-more g (counting gs) ∙ sym (ap over (those_more counts_of g gs e))
    by_test false e = updated_kept (record_after gs) g e ∙ sym (ap over (those_same counts_of g gs e))

groups-more_agree : (gs hs : List Group) → updated_all (record_after gs) hs ≡ record_after (gs ++ hs)
unfolding updated_all
groups-more_agree gs [] = rw append-nil
groups-more_agree gs (h ∷ hs) = rw (group-more gs h) (rw append_assoc at (groups-more_agree (gs ++ h ∷ []) hs))

fresh-after : fresh_of ≡ record_after []
unfolding record_after those latest since_change
fresh-after = over_none None

-- the law: for all groups that came, the record taken from the fresh one, group by group, is what is said of them
pub record_agrees : (gs : List Group) → updated_all fresh_of gs ≡ record_after gs
record_agrees gs = ap (λ (r : Record). updated_all r gs) fresh-after ∙ groups-more_agree [] gs
