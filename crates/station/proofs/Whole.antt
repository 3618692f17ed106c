-- Groups that all say the same of a station give a record that holds just that: PI, PTY and TP, the whole name once
-- each pair of it came, the whole text once each pair of it came.
use Prim.Native.Nat.{ℕ, ◌/◌, ◌<◌}
use mathlib.Core.Path.{◌≡◌, refl, sym, ap, ◌∙◌}
use mathlib.Core.Bool.{Bool, true, false, cond, ◌||◌, false≢true}
use mathlib.Core.List.{List, [], ◌∷◌}
use native.Mathlib.Omega.{arith}
use lib.Dec.{eqb}
use lib.ListN.{length, get_or, replicate}
use borrow.Author.Tests.{eq-eqb}
use Rattle.std.specs.Prelude.{Some, None}
use Rattle.groups.specs.declared.Group.{Group}
use Rattle.groups.specs.declared.fields.Content.{Content}
use Rattle.groups.specs.declared.fields.Content.TheVariants.{Name0A, Name0B, Text2A, Text2B, Clock4A, Other}
use Rattle.groups.specs.Group.{counts_of}
use Rattle.station.specs.Record.{space, name_size, name_pairs, text_size, text_pairs, fresh_of}
use Rattle.station.specs.Update.{updated_all}
use Rattle.station.specs.History.{those, some, each, latest, since_change, listed, pi_in, pty_in, tp_in, carried_in}
use Rattle.station.specs.History.{character_of, has_name, name_word, is_text, flag_of, has_text, text_word}
use Rattle.station.specs.History.{name_character, name_seen, name_over, text_groups, flag_number, since_flag}
use Rattle.station.specs.History.{text_character, text_seen, last_flag, text_over, record_over, counting, last_pi}
use Rattle.station.specs.History.{record_after}
use Rattle.station.specs.Whole.{Every, SaysHeader, SaysName, NameCame, SaysText, TextCame}
use Rattle.station.proofs.Lists.{listed_by, listed_same, listed_replicate}
use Rattle.station.proofs.Agreement.{record_agrees}

-- ---- what each group has

pub every_by : {P Q : Group → Type 0} → ((g : Group) → P g → Q g) → (gs : List Group) → Every P gs → Every Q gs
every_by f [] all = tt
every_by f (g ∷ gs) all = (f g all.0, every_by f gs all.1)

those_all : (test : Group → Bool) (gs : List Group) → Every (λ g. test g ≡ true) gs → those test gs ≡ gs
unfolding those
those_all test [] all = refl
those_all test (g ∷ gs) all = rw all.0 (ap (λ (l : List Group). g ∷ l) (those_all test gs all.1))

-- those that pass a test pass it, and have what each has
those_every : (P : Group → Type 0) (test : Group → Bool) (gs : List Group) →
    Every P gs → Every (λ g. (test g ≡ true) × P g) (those test gs)
unfolding those
those_every P test [] all = tt
those_every P test (g ∷ gs) all = by_test (test g) refl (those_every P test gs all.1)
  where
    by_test : (t : Bool) → test g ≡ t → Every (λ x. (test x ≡ true) × P x) (those test gs) →
        Every (λ x. (test x ≡ true) × P x) (cond t (g ∷ those test gs) (those test gs))
    by_test true e rest = ((e, all.0), rest)
    by_test false e rest = rest

-- all have one number: it never changed
each_alike : (number : Group → ℕ) (n : ℕ) (g : Group) → number g ≡ n → (gs : List Group) →
    Every (λ h. number h ≡ n) gs → each (λ h. eqb (number h) (number g)) gs ≡ true
unfolding each
each_alike number n g is [] all = refl
each_alike number n g is (h ∷ gs) all =
    rw (eq-eqb (number h) (number g) (all.0 ∙ sym is)) (each_alike number n g is gs all.1)

since_all : (number : Group → ℕ) (n : ℕ) (gs : List Group) → Every (λ g. number g ≡ n) gs → since_change number gs ≡ gs
unfolding since_change
since_all number n [] all = refl
since_all number n (g ∷ gs) all = rw (each_alike number n g all.0 gs all.1)

module _ {A : Type 0} (says : Group → A) (x : A) where
  latest-all : (gs : List Group) → Every (λ g. says g ≡ x) gs → latest x says gs ≡ x
  unfolding latest
  latest-all [] all = refl
  latest-all (g ∷ gs) all = rw all.0 (latest-all gs all.1)

  latest-same : (none : A) (gs : List Group) → (gs ≡ [] → ⊥) → Every (λ g. says g ≡ x) gs → latest none says gs ≡ x
  unfolding latest
  latest-same none [] came all = absurd (came refl)
  latest-same none (g ∷ gs) came all = rw all.0 (latest-all gs all.1)

  -- one of them says it, and no other says anything else
  pub latest_said : (none : A) (test : Group → Bool) (gs : List Group) → some test gs ≡ true →
      Every (λ g. test g ≡ true → says g ≡ x) gs → latest none says (those test gs) ≡ x
  unfolding latest those some
  latest_said none test [] came all = absurd (false≢true came)
  latest_said none test (g ∷ gs) came all =
      by_test (test g) refl (λ later. latest_said none test gs later all.1)
    where
      told : Every (λ h. says h ≡ x) (those test gs)
      told =
          every_by (λ h both. both.1 both.0) (those test gs)
          (those_every (λ h. test h ≡ true → says h ≡ x) test gs all.1)

      by_test : (t : Bool) → test g ≡ t → (some test gs ≡ true → latest none says (those test gs) ≡ x) →
          latest none says (cond (test g) (g ∷ those test gs) (those test gs)) ≡ x
      by_test true e later =
          rw e (ap (λ (a : A). latest a says (those test gs)) (all.0 e) ∙ latest-all (those test gs) told)
      by_test false e later = rw e (later (rw e at came))

-- what some group passes, some group passes that passes a weaker test too
some_weaker : (test weaker : Group → Bool) → ((g : Group) → test g ≡ true → weaker g ≡ true) → (gs : List Group) →
    some test gs ≡ true → some weaker gs ≡ true
unfolding some
some_weaker test weaker implied [] came = came
some_weaker test weaker implied (g ∷ gs) came = by_test (test g) refl (some_weaker test weaker implied gs)
  where
    or_right : (t : Bool) → (t || true) ≡ true
    or_right true = refl
    or_right false = refl

    by_test : (t : Bool) → test g ≡ t → (some test gs ≡ true → some weaker gs ≡ true) →
        (weaker g || some weaker gs) ≡ true
    by_test true e later = rw (implied g e)
    by_test false e later = rw (later (rw e at came)) (or_right (weaker g))

some-those : (test weaker : Group → Bool) → ((g : Group) → test g ≡ true → weaker g ≡ true) → (gs : List Group) →
    some test gs ≡ true → some test (those weaker gs) ≡ true
unfolding some those
some-those test weaker implied [] came = came
some-those test weaker implied (g ∷ gs) came =
    by_test (test g) (weaker g) refl refl (some-those test weaker implied gs)
  where
    or_right : (t : Bool) → (t || true) ≡ true
    or_right true = refl
    or_right false = refl

    by_test : (t w : Bool) → test g ≡ t → weaker g ≡ w → (some test gs ≡ true → some test (those weaker gs) ≡ true) →
        some test (cond (weaker g) (g ∷ those weaker gs) (those weaker gs)) ≡ true
    by_test true w e f later = rw (implied g e, e)
    by_test false true e f later = rw (f, later (rw e at came)) (or_right (test g))
    by_test false false e f later = rw (f) (later (rw e at came))

-- ---- the record

text_of-text : (p : ℕ) (k : Content) → has_text p k ≡ true → is_text k ≡ true
unfolding has_text is_text
text_of-text p (Name0A switches a af pair) e = e
text_of-text p (Name0B switches a pair) e = e
text_of-text p (Text2A flag a first second) e = refl
text_of-text p (Text2B flag a pair) e = refl
text_of-text p Clock4A e = e
text_of-text p Other e = e

module _ (gs : List Group) (pi pty : ℕ) (tp : Bool) (all : Every (SaysHeader pi pty tp) gs) where
  counting-all : counting gs ≡ gs
  counting-all = those_all counts_of gs (every_by (λ g says. says.counts) gs all)

  -- all of them are since the PI last changed
  pub stretch_all : since_change pi_in (counting gs) ≡ gs
  stretch_all = rw counting-all (since_all pi_in pi gs (every_by (λ g says. says.pi_is) gs all))

  pub record_over_lem : record_after gs ≡ record_over (last_pi gs) gs
  unfolding record_after
  record_over_lem = rw (stretch_all, counting-all)

  -- PI, PTY and TP are held, once a group came
  pub header_held : (gs ≡ [] → ⊥) →
      ((updated_all fresh_of gs).pi ≡ Some pi) × ((updated_all fresh_of gs).pty ≡ pty) × ((updated_all fresh_of gs).tp ≡ tp)
  unfolding record_over
  header_held some-came =
      rw (record_agrees gs, record_over_lem) (
        last-is (λ g. Some (pi_in g)) (Some pi) None (every_by (λ g says. ap Some says.pi_is) gs all),
        last-is pty_in pty 0 (every_by (λ g says. says.pty_is) gs all),
        last-is tp_in tp false (every_by (λ g says. says.tp_is) gs all),
      )
    where
      last-is : {A : Type 0} (says : Group → A) (x none : A) → Every (λ g. says g ≡ x) gs → latest none says gs ≡ x
      last-is says x none told = latest-same says x none gs some-came told

  -- the whole name is held, and each pair of it is marked seen
  pub name_held : (name : List ℕ) → length name ≡ name_size → Every (SaysName name) gs → NameCame gs →
      ((updated_all fresh_of gs).name.characters ≡ name) × ((updated_all fresh_of gs).name.seen ≡ replicate name_pairs true)
  unfolding record_over name_over
  name_held name size told came = rw (record_agrees gs, record_over_lem) (characters, marks)
    where
      characters : listed name_size (name_character gs) ≡ name
      characters =
          sym (listed_by name_size (name_character gs) 0 name size (λ i h.
          sym (latest_said (λ g. character_of i (name_word (carried_in g))) (get_or name i 0) space
          (λ g. has_name (i / 2) (carried_in g)) gs (came (i / 2) (omega arith))
          (every_by (λ g says. says i h) gs told))))

      marks : listed name_pairs (name_seen gs) ≡ replicate name_pairs true
      marks = listed_same name_pairs (name_seen gs) (λ _. true) came ∙ listed_replicate name_pairs true

  -- the whole text is held with its flag, and each pair of it is marked seen
  pub text_held : (flag : Bool) (text : List ℕ) → length text ≡ text_size → Every (SaysText flag text) gs → TextCame gs →
      ((updated_all fresh_of gs).text.pairs.characters ≡ text)
      × ((updated_all fresh_of gs).text.pairs.seen ≡ replicate text_pairs true)
      × ((updated_all fresh_of gs).text.flag ≡ Some flag)
  unfolding record_over text_over
  text_held flag text size told came = rw (record_agrees gs, record_over_lem) (characters, marks, last-flag)
    where
      texts : Every (λ g. (is_text (carried_in g) ≡ true) × SaysText flag text g) (text_groups gs)
      texts = those_every (SaysText flag text) (λ g. is_text (carried_in g)) gs told

      one-flag : since_flag gs ≡ text_groups gs
      one-flag =
          since_all flag_number (cond flag 1 0) (text_groups gs)
          (every_by (λ g both. ap {B = ℕ} (λ (f : Bool). cond f 1 0) (both.1.flag_is both.0))
          (text_groups gs) texts)

      came-text : (p : ℕ) → p < text_pairs → text_seen (text_groups gs) p ≡ true
      came-text p h =
          some-those (λ g. has_text p (carried_in g)) (λ g. is_text (carried_in g)) (λ g. text_of-text p (carried_in g)) gs
          (came p h)

      characters : listed text_size (text_character (since_flag gs)) ≡ text
      characters =
          rw one-flag (sym (listed_by text_size (text_character (text_groups gs)) 0 text size (λ i h.
          sym (latest_said (λ g. character_of i (text_word (i / 2) (carried_in g))) (get_or text i 0) space
          (λ g. has_text (i / 2) (carried_in g)) (text_groups gs) (came-text (i / 2) (omega arith))
          (every_by (λ g both. both.1.text_is i h) (text_groups gs) texts)))))

      marks : listed text_pairs (text_seen (since_flag gs)) ≡ replicate text_pairs true
      marks =
          rw one-flag
          (listed_same text_pairs (text_seen (text_groups gs)) (λ _. true) came-text ∙ listed_replicate text_pairs true)

      last-flag : last_flag (text_groups gs) ≡ Some flag
      last-flag =
          latest_said (λ g. Some (flag_of (carried_in g))) (Some flag) None (λ g. is_text (carried_in g)) gs
          (some_weaker (λ g. has_text 0 (carried_in g)) (λ g. is_text (carried_in g)) (λ g. text_of-text 0 (carried_in g)) gs
          (came 0 (omega arith)))
          (every_by (λ g says is. ap Some (says.flag_is is)) gs told)
