-- A bit while hunting: the window is the last 52 bits, and where they lock the machine's state is that of two blocks.
use Prim.Native.Nat.{ℕ, ◌+◌, ◌-◌, ◌%◌, ◌^◌, ◌<◌, ◌≤◌, min}
use mathlib.Core.Path.{◌≡◌, refl, ap, ◌∙◌}
use mathlib.Core.List.{List, [], ◌∷◌, ◌++◌}
use mathlib.Core.Logic.{⊎_elim}
use native.Mathlib.Omega.{arith}
use lib.ListN.{length, length-drop}
use lib.Seq.{get_or-drop}
use borrow.Author.Tests.{lt-ltb, le-ltb}
use Rattle.bits.specs.Spell.{spell, Bits, listed}
use Rattle.bits.proofs.Order.{lt-or-le}
use Rattle.blocks.specs.Block.{Found, Judged, found, read_of, judge_of}
use Rattle.blocks.proofs.Reading.{found-valid, judge-valid}
use Rattle.blocks.specs.declared.Kind.{Kind}
use Rattle.blocks.specs.declared.Kind.TheVariants.{A, B, C, CPrime, D}
use Rattle.std.specs.Prelude.{Ok, Err, Option, Some, None}
use Rattle.groups.specs.declared.Group.{Group}
use Rattle.groups.specs.Group.{empty_of}
use Rattle.receiver.specs.declared.Lock.{Lock}
use Rattle.receiver.specs.declared.Receiver.{Receiver}
use Rattle.receiver.specs.Rules.{follower_of, locking, joined_of, pair_of, lock_of}
use Rattle.receiver.specs.Machine.{hunting_of, locked_of, silent_of, tried_of, hunt_of}
use Rattle.history.specs.Locked.{block_of, place_at, judged_in, bads_from}
use Rattle.history.specs.Heard.{hunting, silent_in, last_pair, tried_on, hunted_on}
use Rattle.history.proofs.Growing.{length_more, enough_true, enough_false, bits-more}
use Rattle.history.proofs.Growing.{spelled, window_more, older_is, newer_is}
use Rattle.history.proofs.Counts.{filled_from}
use Rattle.history.proofs.Relation.{state_at, Follows, Agrees}

-- ---- what a lock says of the two blocks

-- X and its follower, each good as its kind
pub record Pair (older newer : ℕ) (kind : Kind) (word next : ℕ) : Type 0 where
  pub first : judge_of older kind ≡ Ok word
  pub second : judge_of newer (follower_of kind word) ≡ Ok next

-- what reads as a kind is good as that kind
read-judge : (n w : ℕ) (kind : Kind) → read_of n ≡ found w kind → judge_of n kind ≡ Ok w
read-judge n w kind e =
    let f = found-valid n w kind e in judge-valid n kind f.0 f.1 ∙ ap (λ (v : ℕ). Ok v) f.2

-- a lock by its parts
abbrev lock : Kind → ℕ → ℕ → Lock
lock kind older newer = record { kind = kind; older = older; newer = newer }

pub lock-pair : (older newer : ℕ) (kind : Kind) (word next : ℕ) → lock_of older newer ≡ locking kind word next
    → Pair older newer kind word next
unfolding lock_of
lock-pair older newer kind word next e = by (read_of older) refl e
  where
    judged : (k : Kind) (w : ℕ) (j : Judged) → read_of older ≡ found w k → judge_of newer (follower_of k w) ≡ j
        → joined_of k w j ≡ locking kind word next → Pair older newer kind word next
    judged k w (Ok n) f g l =
        let same : lock k w n ≡ lock kind word next = cc in
        let same_kind : k ≡ kind = ap (λ (lock : Lock). lock.kind) same in
        let same_word : w ≡ word = ap (λ (lock : Lock). lock.older) same in
        let same_next : n ≡ next = ap (λ (lock : Lock). lock.newer) same in
        rw (← same_kind, ← same_word, ← same_next) (record { first = read-judge older w k f; second = g })
    judged k w (Err error) f g l = let z : ◌≡◌ {A = ℕ} 0 1 = cc in absurd (omega arith)

    by : (f : Found) → read_of older ≡ f → pair_of f newer ≡ locking kind word next → Pair older newer kind word next
    by (Ok (Some b)) f l = judged b.kind b.word (judge_of newer (follower_of b.kind b.word)) f refl l
    by (Ok None) f l = let z : ◌≡◌ {A = ℕ} 0 1 = cc in absurd (omega arith)
    by (Err too_long) f l = let z : ◌≡◌ {A = ℕ} 0 1 = cc in absurd (omega arith)

-- ---- the state after a lock: two blocks have come

module _ (bits : List ℕ) (all : Bits (listed bits)) (long : length bits ≡ 52) where
  two_blocks : (r : Receiver) (kind : Kind) (hand : Group) → r ≡ state_at kind bits 2 0 hand
      → (place_at kind 2 ≤ 2 → hand ≡ filled_from (judged_in kind bits) (2 - place_at kind 2) (place_at kind 2))
      → Follows r kind bits
  two_blocks r kind hand e filled =
      record {
        m = 2;
        c = 0;
        hand = hand;
        is = e;
        fits = record { long = long; short = omega arith; pair = omega arith; all = all; in_hand_lem = filled };
      }

  pub locked_follows : (kind : Kind) (word next : ℕ) → Pair (block_of bits 0) (block_of bits 1) kind word next
      → Follows (locked_of kind word next) kind bits
  unfolding spell judged_in filled_from bads_from
  locked_follows A word next pair =
      two_blocks (locked_of A word next) A (locked_of A word next).hand (rw pair.second)
      (λ _. rw (pair.first, pair.second))
  locked_follows B word next pair = two_blocks (locked_of B word next) B empty_of refl (λ h. absurd (omega arith))
  locked_follows C word next pair = two_blocks (locked_of C word next) C empty_of refl (λ _. refl)
  locked_follows CPrime word next pair = two_blocks (locked_of CPrime word next) CPrime empty_of refl (λ _. refl)
  locked_follows D word next pair =
      two_blocks (locked_of D word next) D (locked_of D word next).hand refl (λ _. rw pair.second)

-- ---- one bit while hunting

module _ (bits : List ℕ) (all : Bits (listed bits)) where
  -- no lock is taken
  silent-agrees : (count : ℕ) → count ≡ min (length bits) 52
      → Agrees (silent_of (hunting_of (spelled bits % 2 ^ 52) count)) (silent_in (hunting bits))
  silent-agrees count e = record { holds = record { is = rw e; all = all }; answer = refl }

  -- the last 52 are tried
  tried-agrees : 52 ≤ length bits → (lock : Option Lock)
      → lock_of (block_of (last_pair bits) 0) (block_of (last_pair bits) 1) ≡ lock
      → Agrees (tried_of (spelled bits % 2 ^ 52) lock) (tried_on bits lock)
  tried-agrees h (Some lock) e =
      record {
        holds = locked_follows (last_pair bits)
            (λ i. rw (get_or-drop (length bits - 52) bits i 0) (all (length bits - 52 + i)))
            (rw (length-drop (length bits - 52) bits) (omega arith)) lock.kind lock.older lock.newer
            (lock-pair (block_of (last_pair bits) 0) (block_of (last_pair bits) 1) lock.kind lock.older lock.newer e);
        answer = refl;
      }
  tried-agrees h None e = silent-agrees 52 (omega arith)

pub hunt_agrees : (bits : List ℕ) (bit : ℕ) → Bits (listed bits) → bit < 2
    → Agrees (hunt_of (spelled bits % 2 ^ 52) (min (length bits) 52) bit) (hunted_on (bits ++ bit ∷ []))
unfolding hunt_of hunted_on
hunt_agrees bits bit all h = ⊎_elim short long (lt-or-le (length bits + 1) 52)
  where
    short : length bits + 1 < 52
        → Agrees (hunt_of (spelled bits % 2 ^ 52) (min (length bits) 52) bit) (hunted_on (bits ++ bit ∷ []))
    short l =
        let few : min (length bits) 52 + 1 < 52 = omega arith in
        let fewer : length (bits ++ bit ∷ []) < 52 = rw (length_more bits bit) l in
        rw (
          lt-ltb (min (length bits) 52 + 1) 52 few,
          enough_false (bits ++ bit ∷ []) fewer,
          window_more bits bit h,
        )
        (silent-agrees (bits ++ bit ∷ []) (bits-more bits bit all h) (min (length bits) 52 + 1)
        (rw (length_more bits bit) (omega arith)))

    long : 52 ≤ length bits + 1
        → Agrees (hunt_of (spelled bits % 2 ^ 52) (min (length bits) 52) bit) (hunted_on (bits ++ bit ∷ []))
    long l =
        let many : 52 ≤ min (length bits) 52 + 1 = omega arith in
        let more : 52 ≤ length (bits ++ bit ∷ []) = rw (length_more bits bit) l in
        let every : Bits (listed (bits ++ bit ∷ [])) = bits-more bits bit all h in
        rw (
          le-ltb (min (length bits) 52 + 1) 52 many,
          enough_true (bits ++ bit ∷ []) more,
          window_more bits bit h,
          older_is (bits ++ bit ∷ []) every more,
          newer_is (bits ++ bit ∷ []) every more,
        )
        (tried-agrees (bits ++ bit ∷ []) every more _ refl)
