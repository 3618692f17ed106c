-- What is counted and gathered block by block, by how each was judged: the bad ones of a run, the group in hand.
use Prim.Native.Nat.{ℕ, zero, suc, ◌+◌, ◌<◌, ◌≤◌}
use mathlib.Core.Path.{◌≡◌, refl}
use mathlib.Core.Bool.{Bool, true, false, cond}
use native.Mathlib.Nat.{add-zero}
use native.Mathlib.Omega.{arith}
use borrow.Author.Tests.{lt-ltb}
use Rattle.blocks.specs.Block.{Judged}
use Rattle.groups.specs.declared.Group.{Group}
use Rattle.groups.specs.Group.{empty_of, with_block_of}
use Rattle.receiver.specs.Rules.{is_bad_of}
use Rattle.receiver.specs.Machine.{bad_with_of}
use Rattle.history.specs.Locked.{group_from, bads_from}

-- the group in hand once n of the four blocks from block k on have come
unfoldable pub filled_from : (ℕ → Judged) → ℕ → ℕ → Group
filled_from judged k zero = empty_of
filled_from judged k (suc n) = with_block_of (filled_from judged k n) n (judged (k + n))

-- all four
pub filled-group : (judged : ℕ → Judged) (k : ℕ) → filled_from judged k 4 ≡ group_from judged k
unfolding filled_from with_block_of
filled-group judged k = rw (add-zero k)

-- ---- blocks judged alike

module _ (later judged : ℕ → Judged) where
  pub filled_same : (k n : ℕ) → ((i : ℕ) → i < k + n → later i ≡ judged i)
      → filled_from later k n ≡ filled_from judged k n
  unfolding filled_from
  filled_same k zero same = refl
  filled_same k (suc n) same =
      rw (filled_same k n (λ i h. same i (omega arith)), same (k + n) (omega arith))

  pub bads_same : (k n : ℕ) → ((i : ℕ) → i < k + n → later i ≡ judged i)
      → bads_from later k n ≡ bads_from judged k n
  unfolding bads_from
  bads_same k zero same = refl
  bads_same k (suc n) same = rw (bads_same k n (λ i h. same i (omega arith)), same (k + n) (omega arith))

-- ---- bad blocks

-- none of no blocks
pub bads-none : (judged : ℕ → Judged) (k : ℕ) → bads_from judged k 0 ≡ 0
unfolding bads_from
bads-none judged k = refl

-- no more are bad than have come
pub bads-le : (judged : ℕ → Judged) (k n : ℕ) → bads_from judged k n ≤ n
unfolding bads_from
bads-le judged k zero = omega arith
bads-le judged k (suc n) = told (is_bad_of (judged (k + n))) (bads-le judged k n)
  where
    told : (t : Bool) → bads_from judged k n ≤ n → bads_from judged k n + cond t 1 0 ≤ suc n
    told true h = omega arith
    told false h = omega arith

-- below 50 the machine counts each
pub bad_with : (bad : ℕ) (judged : Judged) → bad < 50 → bad_with_of bad judged ≡ bad + cond (is_bad_of judged) 1 0
bad_with bad judged h = rw (lt-ltb bad 50 h) (told (is_bad_of judged))
  where
    told : (t : Bool) → cond t (bad + 1) bad ≡ bad + cond t 1 0
    told true = refl
    told false = omega arith
