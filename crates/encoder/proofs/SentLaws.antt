-- The addresses that the encoder sends: each wanted address once, in order, and no other.
use Prim.Native.Nat.{ℕ, zero, suc, ◌+◌, ◌<◌}
use mathlib.Core.Path.{◌≡◌, refl, ap, ◌∙◌}
use mathlib.Core.List.{List, [], ◌∷◌}
use mathlib.Core.Logic.{⊎_elim}
use native.Mathlib.Nat.{eq-or-lt_of_le}
use native.Mathlib.Numerals.{add-one}
use native.Mathlib.Omega.{arith}
use lib.ListN.{length, get_or, length-append, get_or-append, get_or-eq_default}
use lib.Seq.{get_or_at}
use Rattle.bits.proofs.Order.{lt-or-le}
use Rattle.keys.specs.Wanted.{all_addresses, addresses_of}
use Rattle.keys.proofs.WantedLaws.{addresses_most}
use Rattle.encoder.specs.Encoding.{below, sent_of}

-- ---- 0, 1, .. up to n - 1

pub length-below : (n : ℕ) → length (below n) ≡ n
unfolding below
length-below zero = refl
length-below (suc n) = length-append (below n) (n ∷ []) ∙ ap (λ (m : ℕ). m + 1) (length-below n) ∙ add-one n

-- a stands at place a
pub get_d-below : (n a : ℕ) → a < n → get_or (below n) a 0 ≡ a
unfolding below
get_d-below zero a h = absurd (omega arith)
get_d-below (suc n) a h =
    ⊎_elim (λ e. rw e (get_or_at (below n) n [] 0 n (length-below n)))
    (λ l. get_or-append (below n) (n ∷ []) 0 a (rw (length-below n) l) ∙ get_d-below n a l)
    (eq-or-lt_of_le {n = a} {m = n} (omega arith))

-- ---- the addresses of a key

module _ (k : List ℕ) where
  pub length_sent : length (sent_of k) ≡ addresses_of k
  unfolding sent_of
  length_sent = length-below (addresses_of k)

  -- address a is sent as the group at place a
  pub sent_at : (a : ℕ) → a < addresses_of k → get_or (sent_of k) a 0 ≡ a
  unfolding sent_of
  sent_at a h = get_d-below (addresses_of k) a h

  -- each is a name address or a text address
  pub sent_lt : (g : ℕ) → get_or (sent_of k) g 0 < all_addresses
  sent_lt g =
      ⊎_elim (λ l. rw (sent_at g l) (omega (arith, addresses_most k)))
      (λ l. rw (get_or-eq_default (sent_of k) 0 {n = g} (rw length_sent l)) (omega arith))
      (lt-or-le g (addresses_of k))
