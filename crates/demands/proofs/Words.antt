-- The rows' own words say the same as the rules of the marker and the keys: each condition of a row holds exactly if
-- its rule does not. What a rule says is decided part by part.
use Prim.Native.Nat.{ℕ, suc, ◌+◌, ◌*◌, ◌/◌, ◌%◌, ◌<◌, ◌≤◌}
use mathlib.Core.Path.{◌≡◌, refl}
use mathlib.Core.List.{List}
use mathlib.Core.Bool.{Bool, true, false, Bool-discrete}
use mathlib.Core.Logic.{◌↔◌, ◌⊎◌, inl, inr}
use native.Mathlib.Decide.{ℕ_discrete, dec_lt}
use native.Mathlib.Omega.{arith}
use lib.ListN.{length}
use lib.Dec.{eqb}
use Rattle.bits.proofs.Order.{lt-or-le}
use Rattle.groups.specs.Header.{type_of, version_of, tp_of as tp_in, pty_of as pty_in}
use Rattle.groups.specs.Content.{name_address, text_address, text_flag}
use Rattle.groups.specs.Written.{group_size}
use Rattle.keys.specs.Sheet.{record_size, sheet_limit, HasExercise}
use Rattle.keys.specs.Fields.{pi_of, pty_of, tp_of, wanted_of, name_pair_of, text_pair_of}
use Rattle.keys.specs.Wanted.{addresses_of, wanted_address}
use Rattle.keys.proofs.WantedLaws.{address_wanted, wanted_address_lem, addresses_wanted, addresses_unwanted}
use Rattle.keys.proofs.WantedLaws.{addresses_least}
use Rattle.marker.specs.Submission.{word_at}
use Rattle.marker.specs.Tests.{submission_limit, text_at, is_2a}
use Rattle.marker.specs.First.{first}
use Rattle.std.specs.Prelude.{Option, Some, None}
use Rattle.marker.specs.Rules.{GoodLength, IsName, Is2A, First2A, SameFlag, HeaderRight, ContentRight}
use Rattle.marker.proofs.FirstLaws.{at_first, none_first}
use Rattle.marker.proofs.RuleLaws.{is_2A, not_2A}
use Rattle.demands.specs.When as when
use Rattle.demands.specs.When.{NoExercise, WrongLength, HeaderWrong, ContentWrong, Wanted}

-- ---- 1 and 3: the lengths

module _ (sheet : List ℕ) (n : ℕ) where
  pub no_exercise : (HasExercise sheet n → ⊥) ↔ NoExercise sheet n
  no_exercise = (there, back)
    where
      there : (HasExercise sheet n → ⊥) → NoExercise sheet n
      there f =
          told (ℕ_discrete (length sheet) 0) (ℕ_discrete (length sheet % record_size) 0)
          (dec_lt sheet_limit (length sheet)) (dec_lt (length sheet) (record_size * n + record_size))
        where
          told : Dec (length sheet ≡ 0) → Dec (length sheet % record_size ≡ 0) → Dec (sheet_limit < length sheet)
              → Dec (length sheet < record_size * n + record_size) → NoExercise sheet n
          told (yes e) b c d = when.NoExercise.empty e
          told (no a) (no f) c d = when.NoExercise.uneven (λ m e. f (omega arith))
          told (no a) (yes b) (yes l) d = when.NoExercise.over l
          told (no a) (yes b) (no c) (yes l) = when.NoExercise.absent l
          told (no a) (yes b) (no c) (no d) =
              absurd (f (record {
                records = length sheet / record_size;
                whole = omega arith;
                some = omega arith;
                few = omega arith;
                there = omega arith;
              }))

      back : NoExercise sheet n → HasExercise sheet n → ⊥
      back (when.NoExercise.empty e) h = omega (arith, h.whole, h.some)
      back (when.NoExercise.uneven f) h = f h.records h.whole
      back (when.NoExercise.over l) h = omega (arith, h.whole, h.few)
      back (when.NoExercise.absent l) h = omega (arith, h.whole, h.there)

module _ (s : List ℕ) where
  pub wrong-length : (GoodLength s → ⊥) ↔ WrongLength s
  wrong-length = (there, back)
    where
      there : (GoodLength s → ⊥) → WrongLength s
      there f = told (ℕ_discrete (length s) 0) (ℕ_discrete (length s % group_size) 0) (dec_lt submission_limit (length s))
        where
          told : Dec (length s ≡ 0) → Dec (length s % group_size ≡ 0) → Dec (submission_limit < length s) → WrongLength s
          told (yes e) b c = when.WrongLength.empty e
          told (no a) (no f) c = when.WrongLength.uneven (λ m e. f (omega arith))
          told (no a) (yes b) (yes l) = when.WrongLength.over l
          told (no a) (yes b) (no c) =
              absurd (f (record {
                groups = length s / group_size;
                whole = omega arith;
                some = omega arith;
                few = omega arith;
              }))

      back : WrongLength s → GoodLength s → ⊥
      back (when.WrongLength.empty e) h = omega (arith, h.whole, h.some)
      back (when.WrongLength.uneven f) h = f h.groups h.whole
      back (when.WrongLength.over l) h = omega (arith, h.few)

-- ---- 5 and 6: a group

module _ (k s : List ℕ) (g : ℕ) where
  pub header_wrong_lem : (HeaderRight k s g → ⊥) ↔ HeaderWrong k s g
  header_wrong_lem = (there, back)
    where
      there : (HeaderRight k s g → ⊥) → HeaderWrong k s g
      there f =
          told (ℕ_discrete (word_at s g 0) (pi_of k)) (Bool-discrete (eqb (tp_in (word_at s g 1)) 1) (tp_of k))
          (ℕ_discrete (pty_in (word_at s g 1)) (pty_of k)) (ℕ_discrete (version_of (word_at s g 1)) 1)
          (ℕ_discrete (word_at s g 2) (pi_of k))
        where
          told : Dec (word_at s g 0 ≡ pi_of k) → Dec (eqb (tp_in (word_at s g 1)) 1 ≡ tp_of k)
              → Dec (pty_in (word_at s g 1) ≡ pty_of k) → Dec (version_of (word_at s g 1) ≡ 1) → Dec (word_at s g 2 ≡ pi_of k)
              → HeaderWrong k s g
          told (no a) b c d e = when.HeaderWrong.pi a
          told (yes a) (no b) c d e = when.HeaderWrong.tp b
          told (yes a) (yes b) (no c) d e = when.HeaderWrong.pty c
          told (yes a) (yes b) (yes c) (yes v) (no e) = when.HeaderWrong.third v e
          told (yes a) (yes b) (yes c) (yes v) (yes e) =
              absurd (f (record { pi = a; tp = b; pty = c; third = λ _. e }))
          told (yes a) (yes b) (yes c) (no v) e =
              absurd (f (record { pi = a; tp = b; pty = c; third = λ w. absurd (v w) }))

      back : HeaderWrong k s g → HeaderRight k s g → ⊥
      back (when.HeaderWrong.pi f) r = f r.pi
      back (when.HeaderWrong.tp f) r = f r.tp
      back (when.HeaderWrong.pty f) r = f r.pty
      back (when.HeaderWrong.third v f) r = f (r.third v)

-- of the first g + 1 groups, of which the last is a 2A, one is the first 2A
first_2A : (s : List ℕ) (g : ℕ) → Is2A s g → (h : ℕ) × First2A s h
first_2A s g t = told (first (is_2a s) 0 (suc g)) refl
  where
    told : (f : Option ℕ) → first (is_2a s) 0 (suc g) ≡ f → (h : ℕ) × First2A s h
    told (Some h) e =
        let spot = at_first (is_2a s) 0 (suc g) h e in
        (h, (is_2A s h spot.here, λ q l. not_2A s q (spot.before q (omega arith) l)))
    told None e = absurd (not_2A s g (none_first (is_2a s) 0 (suc g) e g (omega arith) (omega arith)) t)

-- there is no other
one-first : (s : List ℕ) (g h : ℕ) → First2A s g → First2A s h → g ≡ h
one-first s g h a b = told (lt-or-le g h) (lt-or-le h g)
  where
    told : (g < h) ⊎ (h ≤ g) → (h < g) ⊎ (g ≤ h) → g ≡ h
    told (inl l) d = absurd (b.1 g l a.0)
    told (inr l) (inl m) = absurd (a.1 h m b.0)
    told (inr l) (inr m) = omega arith

module _ (k s : List ℕ) (g : ℕ) where
  -- a 2A of a key with text is wanted at every address, one of a key without text at none
  text-wanted : wanted_of k ≡ true → wanted_address k (text_at (text_address (word_at s g 1))) ≡ true
  text-wanted w = address_wanted k (text_at (text_address (word_at s g 1))) (omega (arith, addresses_wanted k w))

  text_unwanted : wanted_of k ≡ false → wanted_address k (text_at (text_address (word_at s g 1))) ≡ true → ⊥
  text_unwanted w e =
      omega (arith, addresses_unwanted k w, wanted_address_lem k (text_at (text_address (word_at s g 1))) e)

  module _ (f : ContentRight k s g → ⊥) where
    name-wrong : IsName s g → Dec (word_at s g 3 ≡ name_pair_of k (name_address (word_at s g 1))) → ContentWrong k s g
    name-wrong n (no d) = when.ContentWrong.name n d
    name-wrong n (yes d) =
        absurd (f (record {
          name = λ _. d;
          text = λ t. absurd (omega (arith, n, t.0));
          wanted = λ t. absurd (omega (arith, n, t.0));
          no_2B = λ t. omega (arith, n, t.0);
          flag = λ t. absurd (omega (arith, n, t.0));
        }))

    flag-wrong : Is2A s g → wanted_of k ≡ true → word_at s g 2 ≡ text_pair_of k (2 * text_address (word_at s g 1))
        → word_at s g 3 ≡ text_pair_of k (2 * text_address (word_at s g 1) + 1) → (h : ℕ) → First2A s h
        → Dec (SameFlag s g h) → ContentWrong k s g
    flag-wrong t w a b h x (no d) = when.ContentWrong.flag h t x d
    flag-wrong t w a b h x (yes d) =
        absurd (f (record {
          name = λ n. absurd (omega (arith, n, t.0));
          text = λ _. (a, b);
          wanted = λ _. text-wanted w;
          no_2B = λ u. omega (arith, t.1, u.1);
          flag = λ _ i y. rw (one-first s i h y x) d;
        }))

    text-wrong : Is2A s g → Dec (wanted_of k ≡ true)
        → Dec (word_at s g 2 ≡ text_pair_of k (2 * text_address (word_at s g 1)))
        → Dec (word_at s g 3 ≡ text_pair_of k (2 * text_address (word_at s g 1) + 1)) → ContentWrong k s g
    text-wrong t (no w) b c = when.ContentWrong.unwanted t (told (wanted_of k) refl)
      where
        told : (v : Bool) → wanted_of k ≡ v → wanted_of k ≡ false
        told true e = absurd (w e)
        told false e = e
    text-wrong t (yes w) (no b) c = when.ContentWrong.text-first t b
    text-wrong t (yes w) (yes b) (no c) = when.ContentWrong.text-second t c
    text-wrong t (yes w) (yes b) (yes c) =
        let x = first_2A s g t in
        flag-wrong t w b c x.0 x.1 (Bool-discrete (text_flag (word_at s g 1)) (text_flag (word_at s x.0 1)))

    wrong-content : ContentWrong k s g
    wrong-content =
        told (ℕ_discrete (type_of (word_at s g 1)) 0) (ℕ_discrete (type_of (word_at s g 1)) 2)
        (ℕ_discrete (version_of (word_at s g 1)) 0)
      where
        told : Dec (type_of (word_at s g 1) ≡ 0) → Dec (type_of (word_at s g 1) ≡ 2) → Dec (version_of (word_at s g 1) ≡ 0)
            → ContentWrong k s g
        told (yes n) d e = name-wrong n (ℕ_discrete (word_at s g 3) (name_pair_of k (name_address (word_at s g 1))))
        told (no n) (yes t) (yes v) =
            text-wrong (t, v) (Bool-discrete (wanted_of k) true)
            (ℕ_discrete (word_at s g 2) (text_pair_of k (2 * text_address (word_at s g 1))))
            (ℕ_discrete (word_at s g 3) (text_pair_of k (2 * text_address (word_at s g 1) + 1)))
        told (no n) (yes t) (no v) = when.ContentWrong.a_2B (t, omega arith)
        told (no n) (no t) e =
            absurd (f (record {
              name = λ m. absurd (n m);
              text = λ u. absurd (t u.0);
              wanted = λ u. absurd (t u.0);
              no_2B = λ u. t u.0;
              flag = λ u. absurd (t u.0);
            }))

  pub content_wrong_lem : (ContentRight k s g → ⊥) ↔ ContentWrong k s g
  content_wrong_lem = (wrong-content, back)
    where
      back : ContentWrong k s g → ContentRight k s g → ⊥
      back (when.ContentWrong.name n f) r = f (r.name n)
      back (when.ContentWrong.text-first t f) r = f (r.text t).0
      back (when.ContentWrong.text-second t f) r = f (r.text t).1
      back (when.ContentWrong.flag h t x f) r = f (r.flag t h x)
      back (when.ContentWrong.a_2B t) r = r.no_2B t
      back (when.ContentWrong.unwanted t w) r = text_unwanted w (r.wanted t)

-- ---- 7: an address

module _ (k : List ℕ) (a : ℕ) where
  pub address_is_wanted : (wanted_address k a ≡ true) ↔ Wanted k a
  address_is_wanted = (λ e. there (wanted_address_lem k a e) (wanted_of k) refl, λ w. address_wanted k a (back w))
    where
      there : a < addresses_of k → (b : Bool) → wanted_of k ≡ b → Wanted k a
      there l true w = when.Wanted.text w (omega (arith, addresses_wanted k w))
      there l false w = when.Wanted.name (omega (arith, addresses_unwanted k w))

      back : Wanted k a → a < addresses_of k
      back (when.Wanted.name l) = omega (arith, addresses_least k)
      back (when.Wanted.text w l) = omega (arith, addresses_wanted k w)
