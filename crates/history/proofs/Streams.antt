-- A stream of valid groups, fed from the first bit of any of its blocks on: locked at bit 52, then each group that lies
-- whole in what was fed, all good, in order, at its last bit, and nothing else. From the pair on all bits fed are the
-- history, so each block of it is judged good, and no run loses the lock.
use Prim.Native.Nat.{ℕ, zero, suc, ◌+◌, ◌*◌, ◌-◌, ◌/◌, ◌%◌, ◌<◌, ◌≤◌}
use mathlib.Core.Path.{◌≡◌, refl, sym, ap, subst, ◌∙◌}
use mathlib.Core.List.{List, []}
use mathlib.Core.Bool.{Bool, true, false, cond, ◌&&◌, and-false, and-eq-true_iff, true≢false}
use mathlib.Core.Logic.{⊎_elim}
use native.Mathlib.Nat.{eq-or-lt_of_le}
use native.Mathlib.Numerals.{add-one}
use native.Mathlib.Omega.{arith}
use lib.Dec.{eqb, ltb, leb}
use borrow.Author.Tests.{lt-ltb, le-ltb, eq-eqb, ne_eqb, eqb-true, le-leb, lt-leb, leb-true, leb-false}
use Rattle.bits.specs.Spell.{Bits}
use Rattle.bits.proofs.Order.{lt-or-le}
use Rattle.bits.proofs.Spelling.{spell_lt}
use Rattle.blocks.specs.Block.{Judged, judge_of, word_of, limit, Valid}
use Rattle.blocks.specs.Damage.{block_bits}
use Rattle.blocks.specs.declared.Kind.{Kind}
use Rattle.blocks.specs.declared.Kind.TheVariants.{A, B, D}
use Rattle.std.specs.Prelude.{Ok}
use Rattle.blocks.proofs.Reading.{judge-valid}
use Rattle.groups.specs.Group.{empty_of}
use Rattle.groups.specs.Header.{third_kind, expected_of}
use Rattle.receiver.specs.declared.Answer.TheVariants as answer
use Rattle.receiver.specs.Rules.{follower_of, locking, lock_of, judged_at, loses_of, say_of}
use Rattle.receiver.specs.Answers.{group_of}
use Rattle.receiver.specs.Machine.{fresh_of, step_of, fed_of}
use Rattle.history.specs.Locked.{place_of, place_at, second_before, judged_in, group_from, completes_at, bads_from}
use Rattle.history.specs.Locked.{loses_at}
use Rattle.history.specs.Heard.{Phase, hunting, locked, Heard, ended_on, followed_on, heard_in, phase_after, heard}
use Rattle.history.specs.Streams.{bits_from, sent_block, sent_word, second_word, sent_kind, ValidBlocks, sent_group}
use Rattle.history.specs.Streams.{lies_whole, ends_group, sent_start, answer_at, group_at}
use Rattle.history.proofs.Places.{third-kind}
use Rattle.history.proofs.Agrees.{receiver_agrees}
use Rattle.history.proofs.Feeding.{length_from, block-fed, phase-more}
use Rattle.history.proofs.Pairs.{lock-valid, hunts_on, locks_on}

-- ---- kinds by place

place-expected : (p word2 : ℕ) → p < 4 → place_of (expected_of p word2) ≡ p
place-expected zero word2 h = refl
place-expected (suc zero) word2 h = refl
place-expected (suc (suc zero)) word2 h = third-kind (λ kind. place_of kind ≡ 2) refl refl word2
place-expected (suc (suc (suc zero))) word2 h = refl
place-expected (suc (suc (suc (suc p)))) word2 h = absurd (omega arith)

-- the follower is what the next place expects; a second block's word decides on the third
follower-expected : (p word2 word next : ℕ) → p < 4 → (p ≡ 1 → word ≡ next)
    → follower_of (expected_of p word2) word ≡ expected_of ((p + 1) % 4) next
follower-expected zero word2 word next h same = refl
follower-expected (suc zero) word2 word next h same = ap third_kind (same refl)
follower-expected (suc (suc zero)) word2 word next h same =
    third-kind (λ kind. follower_of kind word ≡ D) refl refl word2
follower-expected (suc (suc (suc zero))) word2 word next h same = refl
follower-expected (suc (suc (suc (suc p)))) word2 word next h same = absurd (omega arith)

-- a block that is valid as its place expects is good there, a third one after its good second
good-at : (p word2 n : ℕ) (second : Judged) → p < 4 → n < limit → Valid (expected_of p word2) n
    → (p ≡ 2 → second ≡ Ok word2) → judged_at p second n ≡ Ok (word_of n)
good-at zero word2 n second h l v after = judge-valid n A l v
good-at (suc zero) word2 n second h l v after = judge-valid n B l v
good-at (suc (suc zero)) word2 n second h l v after = rw (after refl) (judge-valid n (third_kind word2) l v)
good-at (suc (suc (suc zero))) word2 n second h l v after = judge-valid n D l v
good-at (suc (suc (suc (suc p)))) word2 n second h l v after = absurd (omega arith)

-- word 2 of a third block's group is the word of the second block before it
second_word_lem : (f : ℕ → ℕ) (j : ℕ) → j % 4 ≡ 1 → sent_word f j ≡ second_word f (j + 1)
second_word_lem f j e =
    let this : j ≡ 4 * ((j + 1) / 4) + 1 = omega arith in ap (λ (i : ℕ). sent_word f i) this

-- good blocks are none of them bad
none_bad : (judged : ℕ → Judged) (words : ℕ → ℕ) (k n : ℕ) → ((i : ℕ) → k ≤ i → i < k + n → judged i ≡ Ok (words i))
    → bads_from judged k n ≡ 0
unfolding bads_from
none_bad judged words k zero good = refl
none_bad judged words k (suc n) good =
    rw (none_bad judged words k n (λ i p q. good i p (omega arith)), good (k + n) (omega arith) (omega arith))

-- ---- when a group lies whole in what was fed

whole_true : (n : ℕ) → 4 ≤ n / 26 → lies_whole n ≡ true
whole_true n h = omega (arith, le-leb)

whole_false : (n : ℕ) → n / 26 < 4 → lies_whole n ≡ false
whole_false n h = omega (arith, lt-leb)

whole_is : (n : ℕ) → leb 4 (n / 26) ≡ lies_whole n
whole_is n = told (leb 4 (n / 26)) refl
  where
    told : (t : Bool) → leb 4 (n / 26) ≡ t → t ≡ lies_whole n
    told true e = sym (whole_true n (leb-true 4 (n / 26) e))
    told false e = sym (whole_false n (leb-false 4 (n / 26) e))

-- ---- the stream

module _ (f : ℕ → ℕ) (bits : Bits f) (s n : ℕ) (valid : ValidBlocks f s n) where
  abbrev fed : ℕ → List ℕ
  fed k = bits_from f (26 * s) k

  abbrev kind : Kind
  kind = sent_kind f s

  short : (j : ℕ) → sent_block f j < limit
  short j = spell_lt f bits (26 * j) 26

  place-sent : (m : ℕ) → place_at kind m ≡ (s + m) % 4
  place-sent m = rw (place-expected (s % 4) (second_word f s) (omega arith)) (omega arith)

  -- the first two blocks lock
  follower-sent : follower_of kind (sent_word f s) ≡ sent_kind f (s + 1)
  follower-sent =
      let next : (s % 4 + 1) % 4 ≡ (s + 1) % 4 = omega arith in
      follower-expected (s % 4) (second_word f s) (sent_word f s) (second_word f (s + 1))
      (omega arith) (second_word_lem f s)
      ∙ ap (λ (p : ℕ). expected_of p (second_word f (s + 1))) next

  first-lock : 2 ≤ n → lock_of (sent_block f s) (sent_block f (s + 1)) ≡ locking kind (sent_word f s) (sent_word f (s + 1))
  first-lock h =
      lock-valid (sent_block f s) (sent_block f (s + 1)) kind (short s) (short (s + 1))
      (valid s (omega arith) (omega arith)) (rw follower-sent (valid (s + 1) (omega arith) (omega arith)))

  -- ---- each block is good, but for a third one that came first

  second-good : (j : ℕ) → s ≤ j → j < s + n → j % 4 ≡ 1 → judge_of (sent_block f j) B ≡ Ok (sent_word f j)
  second-good j p q e =
      let second : sent_kind f j ≡ B = ap (λ (place : ℕ). expected_of place (second_word f j)) e in
      judge-valid (sent_block f j) B (short j) (subst (λ (k : Kind). Valid k (sent_block f j)) second (valid j p q))

  judged-good : (k i : ℕ) → i < n → 26 * i + 26 ≤ k → ((s + i) % 4 ≡ 2 → 1 ≤ i)
      → judged_in kind (fed k) i ≡ Ok (sent_word f (s + i))
  unfolding judged_in
  judged-good k i h whole after =
      rw (place-sent i, block-fed f s k i whole)
      (good-at ((s + i) % 4) (second_word f (s + i)) (sent_block f (s + i)) (second_before (fed k) i)
      (omega arith) (short (s + i)) (valid (s + i) (omega arith) (omega arith)) second)
    where
      second : (s + i) % 4 ≡ 2 → second_before (fed k) i ≡ Ok (second_word f (s + i))
      second e =
          let past : 1 ≤ i = after e in
          let this : s + (i - 1) + 1 ≡ s + i = omega arith in
          let good = second-good (s + (i - 1)) (omega arith) (omega arith) (omega arith) in
          rw (block-fed f s k (i - 1) (omega arith), good)
          (ap (λ (w : ℕ). Ok w) (rw this at (second_word_lem f (s + (i - 1)) (omega arith))))

  -- ---- a block's end

  -- no run loses the lock
  keeps-lock : (k m : ℕ) → 2 < m → 26 * m ≤ k → m ≤ n → loses_at kind (fed k) m ≡ false
  unfolding loses_at
  keeps-lock k m h whole within = ⊎_elim ends inside (eq-or-lt_of_le {n = 0} {m = (m - 2) % 50} (omega arith))
    where
      ends : 0 ≡ (m - 2) % 50
          → (eqb ((m - 2) % 50) 0 && loses_of (bads_from (judged_in kind (fed k)) (m - 50) 50)) ≡ false
      ends e =
          let none : bads_from (judged_in kind (fed k)) (m - 50) 50 ≡ 0 =
          none_bad (judged_in kind (fed k)) (λ i. sent_word f (s + i)) (m - 50) 50
          (λ i p q. judged-good k i (omega arith) (omega arith) (λ _. omega arith)) in
          rw none (and-false (eqb ((m - 2) % 50) 0))

      inside : 0 < (m - 2) % 50
          → (eqb ((m - 2) % 50) 0 && loses_of (bads_from (judged_in kind (fed k)) (m - 50) 50)) ≡ false
      inside l = rw (ne_eqb ((m - 2) % 50) 0 (omega arith))

  completes-sent : (m : ℕ) → completes_at kind m ≡ (eqb ((s + m) % 4) 0 && leb 4 m)
  unfolding completes_at
  completes-sent m = rw (place-sent m)

  group-sent : (k m : ℕ) → 26 * m ≤ k → m ≤ n → (s + m) % 4 ≡ 0 → 4 ≤ m
      → group_from (judged_in kind (fed k)) (m - 4) ≡ sent_group f (s + m - 4)
  group-sent k m whole within last four =
      rw (first, later 1 (omega arith), later 2 (omega arith), later 3 (omega arith))
    where
      first : judged_in kind (fed k) (m - 4) ≡ Ok (sent_word f (s + m - 4))
      first =
          let this : s + (m - 4) ≡ s + m - 4 = omega arith in
          judged-good k (m - 4) (omega arith) (omega arith) (λ e. omega arith)
          ∙ ap (λ (j : ℕ). Ok (sent_word f j)) this

      later : (c : ℕ) → c < 4 → judged_in kind (fed k) (m - 4 + c) ≡ Ok (sent_word f (s + m - 4 + c))
      later c h =
          let this : s + (m - 4 + c) ≡ s + m - 4 + c = omega arith in
          judged-good k (m - 4 + c) (omega arith) (omega arith) (λ e. omega arith)
          ∙ ap (λ (j : ℕ). Ok (sent_word f j)) this

  -- ---- a bit after the pair

  -- what is heard with the k-th bit
  abbrev heard-at : Phase → ℕ → Heard
  heard-at phase k = record { phase = phase; answer = answer_at f s k }

  inside-sent : (k : ℕ) → 52 < k → (k % 26 ≡ 0 → ⊥) → followed_on kind (fed k) ≡ heard-at (locked kind (fed k)) k
  unfolding followed_on answer_at ends_group
  inside-sent k h within =
      rw (length_from f (26 * s) k, ne_eqb k 52 (omega arith), ne_eqb (k % 26) 0 within)

  ended-sent : (k : ℕ) → 52 < k → k ≤ 26 * n → k % 26 ≡ 0 → followed_on kind (fed k) ≡ heard-at (locked kind (fed k)) k
  unfolding followed_on ended_on answer_at ends_group
  ended-sent k h within whole =
      rw (
        length_from f (26 * s) k,
        ne_eqb k 52 (omega arith),
        eq-eqb (k % 26) 0 whole,
        keeps-lock k (k / 26) (omega arith) (omega arith) (omega arith),
        completes-sent (k / 26),
        whole_is k,
      )
      (told (eqb ((s + k / 26) % 4) 0 && lies_whole k) refl)
    where
      told : (t : Bool) → (eqb ((s + k / 26) % 4) 0 && lies_whole k) ≡ t
          → ◌≡◌ {A = Heard}
          (record {
            phase = locked kind (fed k);
            answer = say_of t false (group_from (judged_in kind (fed k)) (k / 26 - 4));
          })
          (record {
            phase = locked kind (fed k);
            answer = cond t (answer.Group (sent_group f (sent_start s k))) answer.Nothing;
          })
      told true e =
          let parts = (and-eq-true_iff (eqb ((s + k / 26) % 4) 0) (lies_whole k)).0 e in
          let last : (s + k / 26) % 4 ≡ 0 = eqb-true ((s + k / 26) % 4) 0 parts.0 in
          let four : 4 ≤ k / 26 = leb-true 4 (k / 26) parts.1 in
          let start : s + k / 26 - 4 ≡ sent_start s k = omega arith in
          rw (group-sent k (k / 26) (omega arith) (omega arith) last four, start)
      told false e = refl

  followed-sent : (k : ℕ) → 52 < k → k ≤ 26 * n → followed_on kind (fed k) ≡ heard-at (locked kind (fed k)) k
  followed-sent k h within =
      ⊎_elim (λ whole. ended-sent k h within (sym whole)) (λ inside. inside-sent k h (omega arith))
      (eq-or-lt_of_le {n = 0} {m = k % 26} (omega arith))

  -- ---- each bit

  -- no group ends before four blocks have come
  no_group : (k : ℕ) → k < 104 → ends_group s k ≡ false
  unfolding ends_group
  no_group k h =
      rw (whole_false k (omega arith), and-false (eqb ((s + k / 26) % 4) 0)) (and-false (eqb (k % 26) 0))

  -- what has come after k bits
  phase-at : ℕ → Phase
  phase-at k = cond (ltb k 52) (hunting (fed k)) (locked kind (fed k))

  hunting-step : (k : ℕ) → k + 1 < 52 → heard_in (phase-at k) (f (26 * s + k)) ≡ heard-at (phase-at (suc k)) (suc k)
  unfolding phase-at answer_at
  hunting-step k h =
      rw (
        lt-ltb k 52 (omega arith),
        lt-ltb (suc k) 52 (omega arith),
        no_group (suc k) (omega arith),
        ne_eqb (suc k) 52 (omega arith),
      )
      (hunts_on f (26 * s) (λ j _. bits (26 * s + j)) k h)

  locking-step : 2 ≤ n → heard_in (phase-at 51) (f (26 * s + 51)) ≡ heard-at (phase-at 52) 52
  unfolding phase-at answer_at
  locking-step h =
      let next : 26 * s + 26 ≡ 26 * (s + 1) = omega arith in
      (locks_on f (26 * s) (λ j _. bits (26 * s + j)) kind (sent_word f s) (sent_word f (s + 1)) (rw next (first-lock h)))

  following-step : (k : ℕ) → 52 ≤ k → k < 26 * n
      → heard_in (phase-at k) (f (26 * s + k)) ≡ heard-at (phase-at (suc k)) (suc k)
  unfolding phase-at heard_in bits_from
  following-step k h within =
      rw (
        le-ltb k 52 h,
        le-ltb (suc k) 52 (omega arith),
        le-ltb 1 (f (26 * s + k)) (omega (arith, bits (26 * s + k))),
      )
      (followed-sent (suc k) (omega arith) (omega arith))

  -- bit k, from 0
  sent-step : (k : ℕ) → k < 26 * n → heard_in (phase-at k) (f (26 * s + k)) ≡ heard-at (phase-at (suc k)) (suc k)
  sent-step k h = ⊎_elim (λ l. following-step k l h) before (lt-or-le 51 k)
    where
      before : k ≤ 51 → heard_in (phase-at k) (f (26 * s + k)) ≡ heard-at (phase-at (suc k)) (suc k)
      before l =
          ⊎_elim (λ e. rw e (locking-step (omega arith))) (λ l. hunting-step k (omega arith))
          (eq-or-lt_of_le {n = k} {m = 51} l)

  phase-sent : (k : ℕ) → k ≤ 26 * n → phase_after (hunting []) (fed k) ≡ phase-at k
  unfolding bits_from phase_after phase-at
  phase-sent zero h = refl
  phase-sent (suc k) h =
      phase-more (hunting []) (fed k) (f (26 * s + k))
      ∙ rw (phase-sent k (omega arith)) (ap (λ (t : Heard). t.phase) (sent-step k (omega arith)))

  heard-sent : (k : ℕ) → k < 26 * n → heard (fed k) (f (26 * s + k)) ≡ heard-at (phase-at (suc k)) (suc k)
  unfolding heard
  heard-sent k h = rw (phase-sent k (omega arith)) (sent-step k h)

  -- ---- the law

  -- the group of an answer; locked, none has ended
  group-answered : (k : ℕ) → group_of (answer_at f s k) ≡ group_at f s k
  unfolding answer_at group_at
  group-answered k = told (eqb k 52) refl (ends_group s k) refl
    where
      told : (u : Bool) → eqb k 52 ≡ u → (t : Bool) → ends_group s k ≡ t
          → group_of (cond u answer.Locked (cond t (answer.Group (sent_group f (sent_start s k))) answer.Nothing))
          ≡ cond t (sent_group f (sent_start s k)) empty_of
      told true e true l =
          let at : k ≡ 52 = eqb-true k 52 e in absurd (true≢false (sym l ∙ no_group k (omega arith)))
      told true e false l = refl
      told false e true l = refl
      told false e false l = refl

  -- the answer to bit i of those that are fed from block s on, and its group
  pub stream_received : (i : ℕ) → i < block_bits * n
      → ((step_of (fed_of fresh_of (bits_from f (block_bits * s) i)) (f (block_bits * s + i))).answer ≡ answer_at f s (i + 1))
      × (group_of (step_of (fed_of fresh_of (bits_from f (block_bits * s) i)) (f (block_bits * s + i))).answer
      ≡ group_at f s (i + 1))
  stream_received i h =
      let agrees = receiver_agrees (fed i) (f (26 * s + i)) in
      rw (add-one i) (
        agrees.0 ∙ ap (λ (t : Heard). t.answer) (heard-sent i h),
        agrees.1 ∙ ap (λ (t : Heard). group_of t.answer) (heard-sent i h) ∙ group-answered (suc i),
      )
