-- For every list of words, the list taken from empty word by word is what the definition over all words says. One code
-- more changes that definition as it changes a list; the law over words follows by taking the words in turn.
use Prim.Native.Nat.{ℕ, suc, ◌+◌, ◌-◌, ◌/◌, ◌%◌, ◌≤◌, ◌<◌}
use mathlib.Core.Bool.{Bool, true, false, cond, true≢false, false≢true}
use mathlib.Core.List.{List, [], ◌∷◌, ◌++◌, append-nil, append_assoc}
use mathlib.Core.Path.{◌≡◌, refl, sym, ap, ◌∙◌}
use native.Mathlib.Omega.{arith}
use borrow.Author.Tests.{leb-true, leb-false}
use lib.Dec.{leb, lit≤}
use lib.ListN.{length, take, set, replicate, length-append, length-take}
use lib.Seq.{length-take-le, take-nil, take_all, take-append-le, take-append_seam, set-append_seam}
use Rattle.frequencies.specs.AfList.{none_expected, last_count, is_count, af_code, af_word}
use Rattle.frequencies.specs.AfList.{is_in, appended_of, told_of, taken_of, empty_of}
use Rattle.frequencies.specs.Frequency.{khz_of, no_frequency}
use Rattle.frequencies.specs.AfHistory.{meanings, counted, last_number, frequencies, since_count, different, held_after}
use Rattle.frequencies.specs.AfHistory.{holding, af_after, taken_all}
use Rattle.frequencies.specs.declared.Meaning.{Meaning}
use Rattle.frequencies.specs.declared.Meaning.TheVariants.{Count, Frequency, NoChange}
use Rattle.frequencies.specs.declared.AfList.{AfList}
use Rattle.frequencies.proofs.AfTests.{and_right}
use Rattle.frequencies.proofs.AfLists.{append_enough, append_known, append_new}
use Rattle.frequencies.proofs.AfDifferent.{is_in-different, different_snoc}

-- one code more, in each part of the definition

-- after a count code
counted_count : (ms : List Meaning) (n : ℕ) → counted (ms ++ Count n ∷ []) ≡ true
unfolding counted
counted_count [] n = refl
counted_count (Count x ∷ ms) n = refl
counted_count (Frequency x ∷ ms) n = counted_count ms n
counted_count (NoChange ∷ ms) n = counted_count ms n

last_count_lem : (ms : List Meaning) (n : ℕ) → last_number (ms ++ Count n ∷ []) ≡ n
unfolding last_number counted
last_count_lem [] n = refl
last_count_lem (Count x ∷ ms) n = simp (counted_count ms n, last_count_lem ms n)
last_count_lem (Frequency x ∷ ms) n = last_count_lem ms n
last_count_lem (NoChange ∷ ms) n = last_count_lem ms n

since_count_lem : (ms : List Meaning) (n : ℕ) → since_count (ms ++ Count n ∷ []) ≡ []
unfolding since_count counted
since_count_lem [] n = refl
since_count_lem (Count x ∷ ms) n = simp (counted_count ms n, since_count_lem ms n)
since_count_lem (Frequency x ∷ ms) n = since_count_lem ms n
since_count_lem (NoChange ∷ ms) n = since_count_lem ms n

-- where no count code came, none is expected and nothing came since
last_none : (ms : List Meaning) → counted ms ≡ false → last_number ms ≡ 0
unfolding last_number counted
last_none [] none = refl
last_none (Count x ∷ ms) none = absurd (true≢false none)
last_none (Frequency x ∷ ms) none = last_none ms none
last_none (NoChange ∷ ms) none = last_none ms none

-- after any other code, which is no count code
module _ (m : Meaning) (other : counted (m ∷ []) ≡ false) where
  counted-other : (ms : List Meaning) → counted (ms ++ m ∷ []) ≡ counted ms
  unfolding counted
  counted-other [] = other
  counted-other (Count x ∷ ms) = refl
  counted-other (Frequency x ∷ ms) = counted-other ms
  counted-other (NoChange ∷ ms) = counted-other ms

  last-other : (ms : List Meaning) → last_number (ms ++ m ∷ []) ≡ last_number ms
  unfolding last_number
  last-other [] = last_none (m ∷ []) other
  last-other (Count x ∷ ms) = simp (counted-other ms, last-other ms)
  last-other (Frequency x ∷ ms) = last-other ms
  last-other (NoChange ∷ ms) = last-other ms

  since_other : (ms : List Meaning) → counted ms ≡ true → since_count (ms ++ m ∷ []) ≡ since_count ms ++ m ∷ []
  unfolding since_count counted
  since_other [] some = absurd (false≢true some)
  since_other (Count x ∷ ms) some = rw (counted-other ms) (go (counted ms) (since_other ms))
    where
      go :
          (t : Bool) →
          (t ≡ true → since_count (ms ++ m ∷ []) ≡ since_count ms ++ m ∷ []) →
          cond t (since_count (ms ++ m ∷ [])) (ms ++ m ∷ []) ≡ cond t (since_count ms) ms ++ m ∷ []
      go true since = since refl
      go false since = refl
  since_other (Frequency x ∷ ms) some = since_other ms some
  since_other (NoChange ∷ ms) some = since_other ms some

frequencies-append : (s t : List Meaning) → frequencies (s ++ t) ≡ frequencies s ++ frequencies t
unfolding frequencies
frequencies-append [] t = refl
frequencies-append (Count x ∷ s) t = frequencies-append s t
frequencies-append (Frequency x ∷ s) t = ap (λ (l : List ℕ). x ∷ l) (frequencies-append s t)
frequencies-append (NoChange ∷ s) t = frequencies-append s t

-- a frequency more, in a list that holds some

module _ (ks : List ℕ) (e k : ℕ) where
  -- those held are the first slots
  is_in-holding : is_in k (take (length ks) (holding ks e).khz) ≡ is_in k ks
  is_in-holding = ap (is_in k) (take-append_seam ks (replicate (25 - length ks) 0))

  -- a frequency that is new to the list, where more are expected
  holding-new : length ks < e → e ≤ 25 → is_in k ks ≡ false → appended_of (holding ks e) k ≡ holding (ks ++ k ∷ []) e
  holding-new more within new =
      append_new (holding ks e) k more (omega arith) (is_in-holding ∙ new) ∙ longer (24 - length ks) (omega arith)
    where
      longer :
          (n : ℕ) →
          25 - length ks ≡ suc n →
          ◌≡◌ {A = AfList}
          (record { khz = set (ks ++ replicate (25 - length ks) 0) (length ks) k; held = length ks + 1; expected = e })
          (holding (ks ++ k ∷ []) e)
      longer n left =
          let fewer : 25 - (length ks + 1) ≡ n = omega arith in
          simp (length-append, left, fewer, set-append_seam, append_assoc)

  -- a frequency that the list holds already
  holding-known : is_in k ks ≡ true → appended_of (holding ks e) k ≡ holding ks e
  holding-known known = append_known (holding ks e) k (is_in-holding ∙ known)

-- the first e different ones, and one frequency more
first-different :
    (fs : List ℕ) (e k : ℕ) →
    e ≤ 25 →
    appended_of (holding (take e (different fs)) e) k ≡ holding (take e (different (fs ++ k ∷ []))) e
first-different fs e k within = rw (different_snoc fs k) (go (leb e (length (different fs))) refl (is_in k fs) refl)
  where
    go :
        (t : Bool) →
        leb e (length (different fs)) ≡ t →
        (u : Bool) →
        is_in k fs ≡ u →
        appended_of (holding (take e (different fs)) e) k
        ≡ holding (take e (cond u (different fs) (different fs ++ k ∷ []))) e
    go true enough u known =
        let there : e ≤ length (different fs) = leb-true e (length (different fs)) enough in
        let full : length (take e (different fs)) ≡ e = length-take-le e (different fs) there in
        append_enough (holding (take e (different fs)) e) k (omega arith) ∙ ap (λ (l : List ℕ). holding l e) (same u)
      where
        same : (u : Bool) → take e (different fs) ≡ take e (cond u (different fs) (different fs ++ k ∷ []))
        same true = refl
        same false = sym (take-append-le e (different fs) (k ∷ []) (leb-true e (length (different fs)) enough))
    go false fewer true known =
        let more : length (different fs) < e = leb-false e (length (different fs)) fewer in
        let all : length (different fs) ≤ e = omega arith in
        rw (take_all e (different fs)) (holding-known (different fs) e k (is_in-different k fs ∙ known))
    go false fewer false known =
        let more : length (different fs) < e = leb-false e (length (different fs)) fewer in
        let all : length (different fs) ≤ e = omega arith in
        let longer : length (different fs ++ k ∷ []) ≤ e = simp length-append (omega arith) in
        rw (take_all e (different fs), take_all e (different fs ++ k ∷ []))
        (holding-new (different fs) e k more within (is_in-different k fs ∙ known))

-- one code more

-- those held after a code that is no count code: the first different ones, with that code's frequency at the end
held_other :
    (ms : List Meaning) (m : Meaning) →
    counted (m ∷ []) ≡ false →
    held_after (ms ++ m ∷ []) ≡ take (last_number ms) (different (frequencies (since_count ms) ++ frequencies (m ∷ [])))
unfolding held_after
held_other ms m other = rw (last-other m other ms) (go (counted ms) refl)
  where
    go :
        (t : Bool) →
        counted ms ≡ t →
        take (last_number ms) (different (frequencies (since_count (ms ++ m ∷ []))))
        ≡ take (last_number ms) (different (frequencies (since_count ms) ++ frequencies (m ∷ [])))
    go true some = rw (since_other m other ms some, frequencies-append (since_count ms) (m ∷ []))
    go false none = rw (last_none ms none)

-- the list after some codes, as the definition over all says it
abbrev after : List Meaning → AfList
after ms = holding (held_after ms) (last_number ms)

holding-same : {ks ls : List ℕ} {d e : ℕ} → ks ≡ ls → d ≡ e → holding ks d ≡ holding ls e
holding-same p q = rw (p, q)

-- what one code more makes of it is what that code tells the list
code-more : (ms : List Meaning) (m : Meaning) → last_number ms ≤ 25 → after (ms ++ m ∷ []) ≡ told_of (after ms) m
unfolding told_of held_after counted frequencies different
code-more ms (Count n) within = simp (last_count_lem ms n, since_count_lem ms n, take-nil)
code-more ms (Frequency k) within =
    holding-same (held_other ms (Frequency k) refl) (last-other (Frequency k) refl ms)
    ∙ sym (first-different (frequencies (since_count ms)) (last_number ms) k within)
code-more ms NoChange within =
    holding-same (rw append-nil at (held_other ms NoChange refl)) (last-other NoChange refl ms)

-- no code expects more than 25
abbrev Within : Meaning → Type 0
Within (Count n) = n ≤ 25
Within (Frequency k) = Unit {0}
Within NoChange = Unit {0}

code_within : (c : ℕ) → Within (af_code c)
unfolding af_code
code_within c = go (is_count c) refl (no_frequency c)
  where
    go :
        (t : Bool) →
        is_count c ≡ t →
        (u : Bool) →
        Within (cond t (Count (c - none_expected)) (cond u NoChange (Frequency (khz_of c))))
    go true e u =
        let high : leb c last_count ≡ true = and_right (leb none_expected c) (leb c last_count) e in
        omega (arith, leb-true)
    go false e true = tt
    go false e false = tt

last_within : (ms : List Meaning) (m : Meaning) → Within m → last_number ms ≤ 25 → last_number (ms ++ m ∷ []) ≤ 25
unfolding counted
last_within ms (Count n) small within = rw (last_count_lem ms n) small
last_within ms (Frequency k) small within = rw (last-other (Frequency k) refl ms) within
last_within ms NoChange small within = rw (last-other NoChange refl ms) within

-- neither code of a word
word_within : (w : ℕ) → Within (af_word w).first × Within (af_word w).second
unfolding af_word
word_within w = (code_within (w / 256), code_within (w % 256))

-- one word more

module _ (ms : List Meaning) (w : ℕ) (within : last_number ms ≤ 25) where
  first-within : last_number (ms ++ (af_word w).first ∷ []) ≤ 25
  first-within = last_within ms (af_word w).first (word_within w).0 within

  both-within : last_number (ms ++ (af_word w).first ∷ (af_word w).second ∷ []) ≤ 25
  both-within =
      rw append_assoc at (last_within (ms ++ (af_word w).first ∷ []) (af_word w).second (word_within w).1 first-within)

  word-told : taken_of (after ms) w ≡ after (ms ++ (af_word w).first ∷ (af_word w).second ∷ [])
  unfolding taken_of
  word-told =
      ap (λ (l : AfList). told_of l (af_word w).second) (sym (code-more ms (af_word w).first within))
      ∙ sym (rw append_assoc at (code-more (ms ++ (af_word w).first ∷ []) (af_word w).second first-within))

-- words in turn, after some codes
words-told :
    (ms : List Meaning) (ws : List ℕ) →
    last_number ms ≤ 25 →
    (taken_all (after ms) ws ≡ after (ms ++ meanings ws)) × (last_number (ms ++ meanings ws) ≤ 25)
unfolding taken_all meanings
words-told ms [] within = (rw append-nil, rw append-nil within)
words-told ms (w ∷ ws) within =
    let rest = words-told (ms ++ (af_word w).first ∷ (af_word w).second ∷ []) ws (both-within ms w within) in (
      ap (λ (l : AfList). taken_all l ws) (word-told ms w within) ∙ (rw append_assoc at rest.0),
      rw append_assoc at rest.1,
    )

-- the law over all words

module _ (words : List ℕ) where
  -- the list taken from empty word by word is what the definition over all words says
  pub words_taken : taken_all empty_of words ≡ af_after words
  unfolding af_after held_after last_number
  words_taken = (words-told [] words (lit≤ tt)).0

  -- never more than 25 are expected, and never more held than expected
  pub expected_within : (af_after words).expected ≤ 25
  unfolding af_after last_number
  expected_within = (words-told [] words (lit≤ tt)).1

  pub held_within : (af_after words).held ≤ (af_after words).expected
  unfolding af_after held_after
  held_within = simp length-take (omega arith)

-- .. and one word more is taken into what the words before it gave
pub word_more : (words : List ℕ) (w : ℕ) → af_after (words ++ w ∷ []) ≡ taken_of (af_after words) w
unfolding taken_all
word_more words w =
    sym (words_taken (words ++ w ∷ []))
    ∙ last_taken empty_of words
    ∙ ap (λ (l : AfList). taken_of l w) (words_taken words)
  where
    last_taken : (list : AfList) (ws : List ℕ) → taken_all list (ws ++ w ∷ []) ≡ taken_of (taken_all list ws) w
    last_taken list [] = refl
    last_taken list (v ∷ ws) = last_taken (taken_of list v) ws
