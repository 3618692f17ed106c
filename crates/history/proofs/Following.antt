-- A bit while locked: inside a block only the window grows; at a block's end the group in hand, the place and the run
-- move on together. What stood before that block is judged as it was.
use Prim.Native.Nat.{ℕ, suc, ◌+◌, ◌*◌, ◌-◌, ◌/◌, ◌%◌, ◌<◌, ◌≤◌}
use mathlib.Core.Path.{◌≡◌, refl, sym, ap, ◌∙◌}
use mathlib.Core.List.{List, [], ◌∷◌, ◌++◌}
use mathlib.Core.Bool.{Bool, true, false, cond, and-eq-true_iff}
use mathlib.Core.Logic.{⊎_elim}
use native.Mathlib.Omega.{arith}
use native.Mathlib.Nat.{eq-or-lt_of_le}
use lib.Dec.{eqb, leb}
use lib.ListN.{length}
use borrow.Author.Tests.{lt-ltb, le-ltb, eq-eqb, ne_eqb, eqb-true, le-leb, lt-leb, leb-true, leb-false}
use Rattle.bits.specs.Spell.{spell, Bits, listed}
use Rattle.bits.proofs.Order.{lt-or-le}
use Rattle.blocks.specs.declared.Kind.{Kind}
use Rattle.blocks.specs.Block.{Judged}
use Rattle.groups.specs.declared.Group.{Group}
use Rattle.groups.specs.Group.{places, empty_of, with_block_of}
use Rattle.receiver.specs.declared.Place.{Place}
use Rattle.receiver.specs.declared.Run.{Run}
use Rattle.receiver.specs.declared.Receiver.{Receiver}
use Rattle.receiver.specs.Rules.{run_blocks, loses_of, say_of}
use Rattle.receiver.specs.Machine.{fresh_of, begin_of, bad_with_of, counted_of, ended_of, follow_of}
use Rattle.receiver.specs.Machine.{shift_of, newer_of, judge_at_of, after_of, completes_of, held_of, hand_of}
use Rattle.history.specs.Locked.{place_at, block_of, second_before, judged_in, group_from, group_start, in_hand}
use Rattle.history.specs.Locked.{completes_at, pair_blocks, bads_from, loses_at}
use Rattle.history.specs.Heard.{hunting, locked, ended_on, followed_on}
use Rattle.history.proofs.Growing.{length_more, bits-more, second_kept, judged_kept, inside-more, block_ended}
use Rattle.history.proofs.Places.{place_for, place-index, place-judge, place_after, place_completes}
use Rattle.history.proofs.Places.{place-held, place_hand}
use Rattle.history.proofs.Counts.{filled_from, filled-group, filled_same, bads_same, bads-none, bads-le, bad_with}
use Rattle.history.proofs.Relation.{run_at, bad_at, state_at, Hunts, Fits, Follows, Agrees}

-- nothing is spelled by no bits
spell-none : (f : ℕ → ℕ) (i : ℕ) → 0 ≡ spell f i 0
unfolding spell
spell-none f i = refl

-- the fresh state, with no bits
pub fresh_hunts : Hunts fresh_of []
unfolding spell
fresh_hunts = record { is = refl; all = λ i. omega arith }

-- the place after a place
next_place : (kind : Kind) (m : ℕ) → (place_at kind m + 1) % 4 ≡ place_at kind (m + 1)
next_place kind m = omega arith

-- a fourth block's group is in hand where three blocks had come before it
in_hand_true : (m : ℕ) → 4 ≤ m → in_hand m ≡ true
in_hand_true m h = omega (arith, le-leb)

in_hand_false : (m : ℕ) → m < 4 → in_hand m ≡ false
in_hand_false m h = omega (arith, lt-leb)

in_hand-more : (m : ℕ) → leb 3 m ≡ in_hand (m + 1)
in_hand-more m = told (leb 3 m) refl
  where
    told : (t : Bool) → leb 3 m ≡ t → t ≡ in_hand (m + 1)
    told true e = let h : 3 ≤ m = leb-true 3 m e in sym (in_hand_true (m + 1) (omega arith))
    told false e = let h : m < 3 = leb-false 3 m e in sym (in_hand_false (m + 1) (omega arith))

-- ---- one bit more, m blocks having come

-- before the first block of a group nothing is filled
filled-none : (judged : ℕ → Judged) (start : ℕ) → filled_from judged start 0 ≡ empty_of
unfolding filled_from
filled-none judged start = refl

module _
    (kind : Kind) (bits : List ℕ) (bit m c : ℕ) (hand : Group) (fits : Fits kind bits m c hand) (zero_one : bit < 2)
  where
    abbrev more : List ℕ
    more = bits ++ bit ∷ []

    -- the blocks before are judged as they were
    kept : (i : ℕ) → i < m → judged_in kind more i ≡ judged_in kind bits i
    kept i h = judged_kept kind bits bit i (omega arith)

    bad-kept : (k n : ℕ) → k + n ≤ m → bads_from (judged_in kind more) k n ≡ bads_from (judged_in kind bits) k n
    bad-kept k n h = bads_same (judged_in kind more) (judged_in kind bits) k n (λ i l. kept i (omega arith))

    filled-kept : (k n : ℕ) → k + n ≤ m → filled_from (judged_in kind more) k n ≡ filled_from (judged_in kind bits) k n
    filled-kept k n h = filled_same (judged_in kind more) (judged_in kind bits) k n (λ i l. kept i (omega arith))

    run-le : run_at m ≤ m
    run-le = omega arith

    -- the bits so far, with the bit
    long-more : length more ≡ 26 * m + (c + 1)
    long-more = rw (length_more bits bit) (omega arith)

    all_more : Bits (listed more)
    all_more = bits-more bits bit fits.all zero_one

    second-same : second_before more m ≡ second_before bits m
    second-same = second_kept bits bit m (omega arith) (omega arith)

    -- ---- inside a block

    inside-state : record {
      window = shift_of (spell (listed bits) (26 * m) c) bit;
      count = c + 1;
      place = place_for (place_at kind m) (second_before bits m);
      held = leb (place_at kind m) m;
      hand = hand;
      run = run_at m;
      bad = bad_at kind bits m;
    } ≡ state_at kind more m (c + 1) hand
    inside-state =
        rw (
          inside-more bits bit m c fits.all fits.long fits.short,
          second-same,
          bad-kept (m - run_at m) (run_at m) (omega arith),
        )

    inside-agrees : c + 1 < 26 → Agrees (follow_of (state_at kind bits m c hand) bit) (followed_on kind more)
    unfolding follow_of followed_on
    inside-agrees h =
        let within : length more % 26 ≡ 0 → ⊥ = rw long-more (omega arith) in
        rw (lt-ltb (c + 1) 26 h, ne_eqb (length more % 26) 0 within)
        (record {
          holds = record {
            m = m;
            c = c + 1;
            hand = hand;
            is = inside-state;
            fits = record {
              long = long-more;
              short = h;
              pair = fits.pair;
              all = all_more;
              in_hand_lem = λ l. fits.in_hand_lem l ∙ sym (filled-kept (m - place_at kind m) (place_at kind m) (omega arith));
            };
          };
          answer = refl;
        })

-- ---- the last bit of a block

module _
    (kind : Kind) (bits : List ℕ) (bit m : ℕ) (hand : Group) (fits : Fits kind bits m 25 hand) (zero_one : bit < 2)
  where
    abbrev all-bits : List ℕ
    all-bits = bits ++ bit ∷ []

    abbrev judged : ℕ → Judged
    judged = judged_in kind all-bits

    abbrev place : Place
    place = place_for (place_at kind m) (second_before all-bits m)

    abbrev hand-with : Group
    hand-with = with_block_of hand (place_at kind m) (judged m)

    -- the block is judged as the rules say
    judged-is : judge_at_of (place_for (place_at kind m) (second_before bits m))
        (newer_of (shift_of (spell (listed bits) (26 * m) 25) bit)) ≡ judged m
    unfolding judged_in
    judged-is =
        rw (
          block_ended bits bit m fits.all zero_one fits.long,
          place-judge (place_at kind m) (second_before bits m) (block_of all-bits m),
          second-same kind bits bit m 25 hand fits zero_one,
        )

    -- the bad blocks of the run with this one
    bad_more : bad_with_of (bad_at kind bits m) (judged m) ≡ bads_from judged (m - run_at m) (suc (run_at m))
    unfolding bads_from
    bad_more =
        let few : bad_at kind bits m < 50 = omega (arith, bads-le (judged_in kind bits) (m - run_at m) (run_at m)) in
        let this : m - run_at m + run_at m ≡ m = omega arith in
        bad_with (bad_at kind bits m) (judged m) few
        ∙ rw (bad-kept kind bits bit m 25 hand fits zero_one (m - run_at m) (run_at m) (omega arith), this)

    -- the run with this block
    abbrev run-after : Run
    run-after = record { run = run_at (m + 1); bad = bad_at kind all-bits (m + 1); lost = loses_at kind all-bits (m + 1) }

    within-run : run_at m + 1 < 50 → counted_of (run_at m) (bad_at kind bits m) (judged m) ≡ run-after
    unfolding counted_of loses_at
    within-run h =
        let next : run_at (m + 1) ≡ suc (run_at m) = omega arith in
        let start : m + 1 - suc (run_at m) ≡ m - run_at m = omega arith in
        let counted : run_at m + 1 ≡ run_at (m + 1) = omega arith in
        let bads : bad_with_of (bad_at kind bits m) (judged m) ≡ bad_at kind all-bits (m + 1) =
        bad_more ∙ rw (next, start) in
        let kept : false ≡ loses_at kind all-bits (m + 1) =
        rw (ne_eqb ((m + 1 - pair_blocks) % run_blocks) 0 (omega arith)) in
        rw (lt-ltb (run_at m + 1) 50 h) (λ i. record { run = counted i; bad = bads i; lost = kept i })

    ends-run : 50 ≤ run_at m + 1 → counted_of (run_at m) (bad_at kind bits m) (judged m) ≡ run-after
    unfolding counted_of loses_at
    ends-run h =
        let full : run_at m ≡ 49 = omega arith in
        let next : run_at (m + 1) ≡ 0 = omega arith in
        let start : m - 49 ≡ m + 1 - 50 = omega arith in
        let bads : 0 ≡ bad_at kind all-bits (m + 1) = rw next (sym (bads-none judged (m + 1 - 0))) in
        let lost : loses_of (bad_with_of (bad_at kind bits m) (judged m)) ≡ loses_at kind all-bits (m + 1) =
        rw (bad_more, full, start, eq-eqb ((m + 1 - pair_blocks) % run_blocks) 0 (omega arith)) in
        rw (le-ltb (run_at m + 1) 50 h) (λ i. record { run = sym next i; bad = bads i; lost = lost i })

    counted_is : counted_of (run_at m) (bad_at kind bits m) (judged m) ≡ run-after
    counted_is = ⊎_elim within-run ends-run (lt-or-le (run_at m + 1) 50)

    -- ---- the group in hand

    hand-filled : place_at kind m ≤ m → hand-with ≡ filled_from judged (m - place_at kind m) (suc (place_at kind m))
    unfolding filled_from
    hand-filled h =
        let this : m - place_at kind m + place_at kind m ≡ m = omega arith in
        rw (
          fits.in_hand_lem h,
          filled-kept kind bits bit m 25 hand fits zero_one (m - place_at kind m) (place_at kind m) (omega arith),
          this,
        )

    hand-after : place_at kind (m + 1) ≤ m + 1
        → hand_of place hand-with ≡ filled_from judged (m + 1 - place_at kind (m + 1)) (place_at kind (m + 1))
    hand-after h = ⊎_elim fourth before (eq-or-lt_of_le {n = place_at kind m} {m = 3} (omega arith))
      where
        fourth : place_at kind m ≡ 3
            → hand_of place hand-with ≡ filled_from judged (m + 1 - place_at kind (m + 1)) (place_at kind (m + 1))
        fourth e =
            let first : place_at kind (m + 1) ≡ 0 = omega arith in
            place_hand (place_at kind m) (second_before all-bits m) hand-with (omega arith)
            ∙ rw (next_place kind m, first, filled-none judged (m + 1 - 0))

        before : place_at kind m < 3
            → hand_of place hand-with ≡ filled_from judged (m + 1 - place_at kind (m + 1)) (place_at kind (m + 1))
        before l =
            let next : place_at kind (m + 1) ≡ suc (place_at kind m) = omega arith in
            let start : m + 1 - suc (place_at kind m) ≡ m - place_at kind m = omega arith in
            place_hand (place_at kind m) (second_before all-bits m) hand-with (omega arith)
            ∙ rw (next_place kind m, ne_eqb (place_at kind (m + 1)) 0 (omega arith), next, start)
            (hand-filled (omega arith))

    completes-is : completes_of place (leb (place_at kind m) m) ≡ completes_at kind (m + 1)
    unfolding completes_at
    completes-is = ⊎_elim fourth before (eq-or-lt_of_le {n = place_at kind m} {m = 3} (omega arith))
      where
        fourth : place_at kind m ≡ 3 → completes_of place (leb (place_at kind m) m) ≡ completes_at kind (m + 1)
        fourth e =
            place_completes (place_at kind m) (second_before all-bits m) (leb (place_at kind m) m) (omega arith)
            ∙ rw (next_place kind m, e, in_hand-more m)

        before : place_at kind m < 3 → completes_of place (leb (place_at kind m) m) ≡ completes_at kind (m + 1)
        before l =
            place_completes (place_at kind m) (second_before all-bits m) (leb (place_at kind m) m) (omega arith)
            ∙ rw (next_place kind m, ne_eqb (place_at kind (m + 1)) 0 (omega arith))

    -- the four blocks of a group that is done
    group-done : completes_at kind (m + 1) ≡ true → hand-with ≡ group_from judged (group_start (m + 1))
    unfolding completes_at
    group-done e =
        let parts = (and-eq-true_iff (eqb (place_at kind (m + 1)) 0) (in_hand (m + 1))).0 e in
        let first : place_at kind (m + 1) ≡ 0 = eqb-true (place_at kind (m + 1)) 0 parts.0 in
        let four : 4 ≤ m + 1 = leb-true places (m + 1) parts.1 in
        let fourth : place_at kind m ≡ 3 = omega arith in
        let start : m - 3 ≡ group_start (m + 1) = omega arith in
        hand-filled (omega arith) ∙ rw (fourth, start) (filled-group judged (group_start (m + 1)))

    answer-is : (lost : Bool) → say_of (completes_at kind (m + 1)) lost hand-with
        ≡ say_of (completes_at kind (m + 1)) lost (group_from judged (group_start (m + 1)))
    answer-is lost = told (completes_at kind (m + 1)) refl lost
      where
        told : (done : Bool) → completes_at kind (m + 1) ≡ done → (lost : Bool)
            → say_of done lost hand-with ≡ say_of done lost (group_from judged (group_start (m + 1)))
        told true e lost = ap (say_of true lost) (group-done e)
        told false e true = refl
        told false e false = refl

    -- ---- the step

    abbrev state-after : Receiver
    state-after =
        begin_of (after_of place (judged m)) (held_of place (leb (place_at kind m) m)) (hand_of place hand-with)
        (run_at (m + 1)) (bad_at kind all-bits (m + 1))

    place_is : after_of place (judged m) ≡ place_for (place_at kind (m + 1)) (second_before all-bits (m + 1))
    unfolding judged_in
    place_is =
        let this : m + 1 - 1 ≡ m = omega arith in
        place_after (place_at kind m) (second_before all-bits m) (block_of all-bits m) (omega arith)
        ∙ rw (next_place kind m, this)

    held-is : held_of place (leb (place_at kind m) m) ≡ leb (place_at kind (m + 1)) (m + 1)
    held-is = place-held (place_at kind m) (second_before all-bits m) m (omega arith) ∙ rw (next_place kind m)

    state-is : state-after ≡ state_at kind all-bits (m + 1) 0 (hand_of place hand-with)
    state-is = λ i. record {
      window = spell-none (listed all-bits) (26 * (m + 1)) i;
      count = 0;
      place = place_is i;
      held = held-is i;
      hand = hand_of place hand-with;
      run = run_at (m + 1);
      bad = bad_at kind all-bits (m + 1);
    }

    after-follows : Follows state-after kind all-bits
    after-follows =
        record {
          m = m + 1;
          c = 0;
          hand = hand_of place hand-with;
          is = state-is;
          fits = record {
            long = rw (length_more bits bit) (omega arith);
            short = omega arith;
            pair = omega arith;
            all = bits-more bits bit fits.all zero_one;
            in_hand_lem = hand-after;
          };
        }

    ended-agrees : Agrees (ended_of place (leb (place_at kind m) m) (judged m) hand-with run-after)
        (ended_on kind all-bits (m + 1))
    unfolding ended_of ended_on
    ended-agrees = rw completes-is (told (loses_at kind all-bits (m + 1)))
      where
        told : (lost : Bool) → Agrees
            (record {
              next = cond lost fresh_of state-after;
              answer = say_of (completes_at kind (m + 1)) lost hand-with;
            })
            (record {
              phase = cond lost (hunting []) (locked kind all-bits);
              answer = say_of (completes_at kind (m + 1)) lost (group_from judged (group_start (m + 1)));
            })
        told true = record { holds = fresh_hunts; answer = answer-is true }
        told false = record { holds = after-follows; answer = answer-is false }

    end-agrees : Agrees (follow_of (state_at kind bits m 25 hand) bit) (followed_on kind all-bits)
    unfolding follow_of followed_on
    end-agrees =
        let long : length all-bits ≡ 26 * (m + 1) = rw (length_more bits bit) (omega arith) in
        let whole : length all-bits % 26 ≡ 0 = omega arith in
        let blocks : length all-bits / 26 ≡ m + 1 = omega arith in
        rw (
          judged-is,
          eq-eqb (length all-bits % 26) 0 whole,
          blocks,
          counted_is,
          ← second-same kind bits bit m 25 hand fits zero_one,
          place-index (place_at kind m) (second_before all-bits m) (omega arith),
        )
        ended-agrees

-- ---- one bit while locked

pub follow_agrees : (kind : Kind) (bits : List ℕ) (bit m c : ℕ) (hand : Group) → Fits kind bits m c hand → bit < 2
    → Agrees (follow_of (state_at kind bits m c hand) bit) (followed_on kind (bits ++ bit ∷ []))
follow_agrees kind bits bit m c hand fits h =
    ⊎_elim (inside-agrees kind bits bit m c hand fits h) last (lt-or-le (c + 1) 26)
  where
    last : 26 ≤ c + 1 → Agrees (follow_of (state_at kind bits m c hand) bit) (followed_on kind (bits ++ bit ∷ []))
    last l =
        let full : c ≡ 25 = omega arith in
        rw full (end-agrees kind bits bit m hand (rw full at fits) h)
