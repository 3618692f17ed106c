-- Laws of reading and judging: what each answers, exactly when; what is written reads back, and what reads is what
-- was written. Reading goes by the remainder alone (`fitting`); each law is then five cases or one induction over the
-- kinds.
use Prim.Native.Nat.{ℕ, ◌%◌, ◌<◌, ◌≤◌}
use mathlib.Core.Path.{◌≡◌, refl, sym, ap, ◌∙◌}
use mathlib.Core.List.{List, [], ◌∷◌}
use mathlib.Core.Bool.{Bool, true, false, cond, ◌||◌}
use mathlib.Core.Logic.{⊎_elim}
use native.Mathlib.Omega.{arith}
use lib.Dec.{eqb, leb}
use borrow.Author.Tests.{ne_eqb, eqb-true, le-leb, lt-leb, leb-true, leb-false}
use Rattle.blocks.specs.Divide.{remainder}
use Rattle.std.specs.Prelude.{Ok, Err, None}
use Rattle.blocks.specs.declared.Block.{Block}
use Rattle.blocks.specs.Block.{Found, Judged, block, found, kinds, offset_of, write_of, Valid, valid, word_of, limit, among, read_of, judge_of}
use Rattle.blocks.specs.Answers.{
  found_number,
  found_values,
  judged_number,
  judged_values,
  length_number,
  is_offset,
  read_values,
  judge_values,
}
use Rattle.blocks.specs.declared.Kind.{Kind}
use Rattle.blocks.specs.declared.Kind.TheVariants.{A, B, C, CPrime, D}
use Rattle.blocks.specs.declared.BlockError.TheVariants.{Bad, TooLong}
use Rattle.bits.proofs.Order.{lt-or-le}
use Rattle.blocks.proofs.Validity.{valid-eqb, valid-left, left-valid, valid_true, true-valid, valid_false}
use Rattle.blocks.proofs.Validity.{write-valid, valid-write, write-lt, write_word}

-- ---- reading by the remainder

-- the first of these kinds whose offset is r
unfoldable fitting : List Kind → ℕ → ℕ → Found
fitting [] w r = (Ok None)
fitting (k ∷ ks) w r = cond (eqb r (offset_of k)) (found w k) (fitting ks w r)

among-fitting : (ks : List Kind) (n : ℕ) → among ks n ≡ fitting ks (word_of n) (remainder n)
unfolding among fitting
among-fitting [] n = refl
among-fitting (k ∷ ks) n = rw (valid-eqb k n, among-fitting ks n)

-- under 26 bits the remainder decides
read_short : (n : ℕ) → n < limit → read_of n ≡ fitting kinds (word_of n) (remainder n)
unfolding read_of
read_short n h = rw (lt-leb limit n h) (among-fitting kinds n)

-- ---- each answer of reading, exactly when

-- over 26 bits is refused
pub read-long : (n : ℕ) → limit ≤ n → read_of n ≡ Err (record {})
unfolding read_of
read-long n h = rw (le-leb limit n h)

-- a block valid as a kind reads as its word and that kind
pub read-valid : (n : ℕ) (k : Kind) → n < limit → Valid k n → read_of n ≡ found (word_of n) k
unfolding fitting
read-valid n k h v = read_short n h ∙ ap (fitting kinds (word_of n)) (valid-left k n v) ∙ own k
  where
    own : (k : Kind) → fitting kinds (word_of n) (offset_of k) ≡ found (word_of n) k
    own A = refl
    own B = refl
    own C = refl
    own CPrime = refl
    own D = refl

-- what is found fits
found_fits : (ks : List Kind) (w r v : ℕ) (k : Kind) → fitting ks w r ≡ found v k → (r ≡ offset_of k) × (w ≡ v)
unfolding fitting
found_fits [] w r v k e = let z : ◌≡◌ {A = ℕ} 0 1 = cc in absurd (omega arith)
found_fits (l ∷ ks) w r v k e = told (eqb r (offset_of l)) refl (found_fits ks w r v k)
  where
    told : (t : Bool) → eqb r (offset_of l) ≡ t → (fitting ks w r ≡ found v k → (r ≡ offset_of k) × (w ≡ v))
        → (r ≡ offset_of k) × (w ≡ v)
    told true s later =
        let f : found w l ≡ found v k = rw s at e in let same : block w l ≡ block v k = cc in
        (eqb-true r (offset_of l) s ∙ ap (λ (b : Block). offset_of b.kind) same, ap (λ (b : Block). b.word) same)
    told false s later = later (rw s at e)

-- reading answers a word and kind k exactly if the number has 26 bits and is valid as k
pub found-valid : (n w : ℕ) (k : Kind) → read_of n ≡ found w k → (n < limit) × Valid k n × (word_of n ≡ w)
found-valid n w k e = ⊎_elim short long (lt-or-le n limit)
  where
    short : n < limit → (n < limit) × Valid k n × (word_of n ≡ w)
    short h =
        let f = found_fits kinds (word_of n) (remainder n) w k (sym (read_short n h) ∙ e) in
        (h, left-valid k n f.0, f.1)

    long : limit ≤ n → (n < limit) × Valid k n × (word_of n ≡ w)
    long h = let t : read_of n ≡ Err (record {}) = read-long n h in let z : ◌≡◌ {A = ℕ} 0 1 = cc in absurd (omega arith)

-- none exactly if it has 26 bits and no kind is valid
none_fits : (ks : List Kind) (w r : ℕ) → ((k : Kind) → r ≡ offset_of k → ⊥) → fitting ks w r ≡ Ok None
unfolding fitting
none_fits [] w r none = refl
none_fits (k ∷ ks) w r none = rw (ne_eqb r (offset_of k) (none k)) (none_fits ks w r none)

pub read_nothing : (n : ℕ) → n < limit → ((k : Kind) → Valid k n → ⊥) → read_of n ≡ Ok None
read_nothing n h none =
    read_short n h ∙ none_fits kinds (word_of n) (remainder n) (λ k e. none k (left-valid k n e))

pub nothing-valid : (n : ℕ) → read_of n ≡ Ok None → (n < limit) × ((k : Kind) → Valid k n → ⊥)
nothing-valid n e = ⊎_elim short long (lt-or-le n limit)
  where
    short : n < limit → (n < limit) × ((k : Kind) → Valid k n → ⊥)
    short h = (
      h,
      λ k v. let t : read_of n ≡ found (word_of n) k = read-valid n k h v in let z : ◌≡◌ {A = ℕ} 0 1 = cc in
          omega arith,
    )

    long : limit ≤ n → (n < limit) × ((k : Kind) → Valid k n → ⊥)
    long h = let t : read_of n ≡ Err (record {}) = read-long n h in let z : ◌≡◌ {A = ℕ} 0 1 = cc in absurd (omega arith)

-- ---- its number and values

among-number : (ks : List Kind) (n : ℕ) → found_number (among ks n) ≡ 0
unfolding among
among-number [] n = refl
among-number (k ∷ ks) n = told (valid k n) (among-number ks n)
  where
    told : (t : Bool) → found_number (among ks n) ≡ 0 → found_number (cond t (found (word_of n) k) (among ks n)) ≡ 0
    told true later = refl
    told false later = later

pub read_number : (n : ℕ) → found_number (read_of n) ≡ length_number n
unfolding read_of
read_number n = told (leb limit n)
  where
    told : (t : Bool) → found_number (cond t (Err (record {})) (among kinds n)) ≡ cond t 12 0
    told true = refl
    told false = among-number kinds n

fitting_values : (ks : List Kind) (w r : ℕ) → found_values (fitting ks w r) ≡ cond (is_offset ks r) (w ∷ r ∷ []) []
unfolding fitting
fitting_values [] w r = refl
fitting_values (k ∷ ks) w r = told (eqb r (offset_of k)) refl (fitting_values ks w r)
  where
    told : (t : Bool) → eqb r (offset_of k) ≡ t → found_values (fitting ks w r) ≡ cond (is_offset ks r) (w ∷ r ∷ []) []
        → found_values (cond t (found w k) (fitting ks w r)) ≡ cond (t || is_offset ks r) (w ∷ r ∷ []) []
    told true s later = ap (λ (x : ℕ). w ∷ x ∷ []) (sym (eqb-true r (offset_of k) s))
    told false s later = later

pub read_values_lem : (n : ℕ) → found_values (read_of n) ≡ read_values n
unfolding read_of read_values
read_values_lem n = told (leb limit n)
  where
    told : (t : Bool) → found_values (cond t (Err (record {})) (among kinds n))
        ≡ cond t [] (cond (is_offset kinds (remainder n)) (word_of n ∷ remainder n ∷ []) [])
    told true = refl
    told false = ap found_values (among-fitting kinds n) ∙ fitting_values kinds (word_of n) (remainder n)

-- 12 exactly if over 26 bits
pub length_12 : (n : ℕ) → length_number n ≡ 12 → limit ≤ n
length_12 n e = told (leb limit n) refl
  where
    told : (t : Bool) → leb limit n ≡ t → limit ≤ n
    told true s = leb-true limit n s
    told false s = let z : ◌≡◌ {A = ℕ} 0 12 = rw s at e in absurd (omega arith)

pub length_over : (n : ℕ) → limit ≤ n → length_number n ≡ 12
length_over n h = rw (le-leb limit n h)

-- ---- each answer of judging, exactly when

pub judge-long : (n : ℕ) (k : Kind) → limit ≤ n → judge_of n k ≡ Err TooLong
unfolding judge_of
judge-long n k h = rw (le-leb limit n h)

pub judge-valid : (n : ℕ) (k : Kind) → n < limit → Valid k n → judge_of n k ≡ Ok (word_of n)
unfolding judge_of
judge-valid n k h v = rw (lt-leb limit n h, valid_true k n v)

pub judge_bad : (n : ℕ) (k : Kind) → n < limit → (Valid k n → ⊥) → judge_of n k ≡ Err Bad
unfolding judge_of
judge_bad n k h v = rw (lt-leb limit n h, valid_false k n v)

pub judged-valid : (n w : ℕ) (k : Kind) → judge_of n k ≡ Ok w → (n < limit) × Valid k n × (word_of n ≡ w)
unfolding judge_of
judged-valid n w k e = told (leb limit n) refl (valid k n) refl
  where
    told : (t : Bool) → leb limit n ≡ t → (u : Bool) → valid k n ≡ u → (n < limit) × Valid k n × (word_of n ≡ w)
    told true s u v = let f : (Err TooLong) ≡ Ok w = rw s at e in let z : ◌≡◌ {A = ℕ} 0 1 = cc in absurd (omega arith)
    told false s true v =
        let f : Ok (word_of n) ≡ Ok w = rw (s, v) at e in (leb-false limit n s, true-valid k n v, cc)
    told false s false v = let f : (Err Bad) ≡ Ok w = rw (s, v) at e in let z : ◌≡◌ {A = ℕ} 0 1 = cc in absurd (omega arith)

pub bad-valid : (n : ℕ) (k : Kind) → judge_of n k ≡ Err Bad → Valid k n → ⊥
bad-valid n k e v = ⊎_elim short long (lt-or-le n limit)
  where
    short : n < limit → ⊥
    short h = let t : judge_of n k ≡ Ok (word_of n) = judge-valid n k h v in let z : ◌≡◌ {A = ℕ} 0 1 = cc in omega arith

    long : limit ≤ n → ⊥
    long h = let t : judge_of n k ≡ Err TooLong = judge-long n k h in let z : ◌≡◌ {A = ℕ} 0 1 = cc in omega arith

pub judge-number : (n : ℕ) (k : Kind) → judged_number (judge_of n k) ≡ length_number n
unfolding judge_of
judge-number n k = told (leb limit n) (valid k n)
  where
    told : (t u : Bool) → judged_number (cond t (Err TooLong) (cond u (Ok (word_of n)) (Err Bad))) ≡ cond t 12 0
    told true u = refl
    told false true = refl
    told false false = refl

pub judge_values_lem : (n : ℕ) (k : Kind) → judged_values (judge_of n k) ≡ judge_values n k
unfolding judge_of judge_values
judge_values_lem n k = rw (valid-eqb k n) (told (leb limit n) (eqb (remainder n) (offset_of k)))
  where
    told : (t u : Bool) → judged_values (cond t (Err TooLong) (cond u (Ok (word_of n)) (Err Bad))) ≡ cond t []
        (cond u (word_of n ∷ []) [])
    told true u = refl
    told false true = refl
    told false false = refl

-- ---- written and read back, both ways

pub read-write : (w : ℕ) (k : Kind) → w < 65536 → read_of (write_of w k) ≡ found w k
read-write w k h =
    read-valid (write_of w k) k (write-lt w k h) (write-valid w k) ∙ ap (λ (v : ℕ). found v k) (write_word w k)

pub write_read : (n w : ℕ) (k : Kind) → read_of n ≡ found w k → write_of w k ≡ n
write_read n w k e =
    let f = found-valid n w k e in ap (λ (v : ℕ). write_of v k) (sym f.2) ∙ valid-write k n f.1

pub judge-write : (w : ℕ) (k : Kind) → w < 65536 → judge_of (write_of w k) k ≡ Ok w
judge-write w k h =
    judge-valid (write_of w k) k (write-lt w k h) (write-valid w k) ∙ ap Ok (write_word w k)

pub write-judge : (n w : ℕ) (k : Kind) → judge_of n k ≡ Ok w → write_of w k ≡ n
write-judge n w k e =
    let f = judged-valid n w k e in ap (λ (v : ℕ). write_of v k) (sym f.2) ∙ valid-write k n f.1

-- ---- what the functions promise, from the equation alone

pub read_settled : (n : ℕ) (f : Found) → f ≡ read_of n → (f ≡ read_of n) × (found_number f ≡ length_number n) ×
    (found_values f ≡ read_values n)
read_settled n f e = (e, ap found_number e ∙ read_number n, ap found_values e ∙ read_values_lem n)

pub judge_settled : (n : ℕ) (k : Kind) (j : Judged) → j ≡ judge_of n k
    → (j ≡ judge_of n k) × (judged_number j ≡ length_number n) × (judged_values j ≡ judge_values n k)
judge_settled n k j e = (e, ap judged_number e ∙ judge-number n k, ap judged_values e ∙ judge_values_lem n k)

-- the number that the division leaves decides
module _ (n r : ℕ) (short : n < limit) (left : r ≡ remainder (n % limit)) where
  left_is : r ≡ remainder n
  left_is = left ∙ ap remainder (omega arith)

  pub read_left : (k : Kind) → r ≡ offset_of k → found (word_of n) k ≡ read_of n
  read_left k e = sym (read-valid n k short (left-valid k n (sym left_is ∙ e)))

  pub read_none_left : ((k : Kind) → r ≡ offset_of k → ⊥) → (Ok None) ≡ read_of n
  read_none_left none = sym (read_nothing n short (λ k v. none k (left_is ∙ valid-left k n v)))

  pub judge_left : (k : Kind) → r ≡ offset_of k → Ok (word_of n) ≡ judge_of n k
  judge_left k e = sym (judge-valid n k short (left-valid k n (sym left_is ∙ e)))

  pub judge_none_left : (k : Kind) → (r ≡ offset_of k → ⊥) → (Err Bad) ≡ judge_of n k
  judge_none_left k none = sym (judge_bad n k short (λ v. none (left_is ∙ valid-left k n v)))
