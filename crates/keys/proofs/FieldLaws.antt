-- What the fields of a key whose bytes are below 256 hold: words of 16 bits, and of a pair its two characters.
use Prim.Native.Nat.{ℕ, ◌+◌, ◌*◌, ◌/◌, ◌%◌, ◌≤◌, ◌<◌}
use mathlib.Core.Path.{◌≡◌}
use mathlib.Core.List.{List}
use mathlib.Core.Bool.{Bool, true, false, cond}
use native.Mathlib.Omega.{arith}
use lib.ListN.{get_or}
use lib.Dec.{leb}
use borrow.Author.Tests.{le-leb, lt-leb}
use Rattle.bits.specs.Bytes.{Bytes}
use Rattle.keys.specs.Fields.{pi_place, name_pairs, text_pairs, name_byte, text_byte}
use Rattle.keys.specs.Fields.{pair_of, pi_of, pty_of, name_pair_of, text_pair_of}

module _ (high low : ℕ) (below : low < 256) where
  pub pair_lt : high < 256 → pair_of high low < 65536
  unfolding pair_of
  pair_lt h = omega arith

  pub pair_high : pair_of high low / 256 ≡ high
  unfolding pair_of
  pair_high = omega arith

  pub pair_low : pair_of high low % 256 ≡ low
  unfolding pair_of
  pair_low = omega arith

module _ (k : List ℕ) where
  -- a pair that is there
  pub name_pair_at : (a : ℕ) → a < name_pairs → name_pair_of k a ≡ pair_of (name_byte k (2 * a)) (name_byte k (2 * a + 1))
  unfolding name_pair_of
  name_pair_at a l = rw (lt-leb name_pairs a l)

  pub text_pair_at : (a : ℕ) → a < text_pairs → text_pair_of k a ≡ pair_of (text_byte k (2 * a)) (text_byte k (2 * a + 1))
  unfolding text_pair_of
  text_pair_at a l = rw (lt-leb text_pairs a l)

  -- a pair that is not
  pub name_pair_past : (a : ℕ) → name_pairs ≤ a → name_pair_of k a ≡ 0
  unfolding name_pair_of
  name_pair_past a l = rw (le-leb name_pairs a l)

  pub text_pair_past : (a : ℕ) → text_pairs ≤ a → text_pair_of k a ≡ 0
  unfolding text_pair_of
  text_pair_past a l = rw (le-leb text_pairs a l)

cond-lt : (b : Bool) (x n : ℕ) → x < n → cond b 0 x < n
cond-lt true x n l = omega arith
cond-lt false x n l = l

module _ (k : List ℕ) (bytes : Bytes k) where
  pub pi_lt : pi_of k < 65536
  unfolding pi_of
  pi_lt = pair_lt (get_or k pi_place 0) (get_or k (pi_place + 1) 0) (bytes _) (bytes _)

  pub pty_lt : pty_of k < 256
  unfolding pty_of
  pty_lt = bytes _

  pub name_pair_lt : (a : ℕ) → name_pair_of k a < 65536
  unfolding name_pair_of
  name_pair_lt a =
      cond-lt (leb name_pairs a) _ 65536 (pair_lt (name_byte k (2 * a)) (name_byte k (2 * a + 1)) (bytes _) (bytes _))

  pub text_pair_lt : (a : ℕ) → text_pair_of k a < 65536
  unfolding text_pair_of
  text_pair_lt a =
      cond-lt (leb text_pairs a) _ 65536 (pair_lt (text_byte k (2 * a)) (text_byte k (2 * a + 1)) (bytes _) (bytes _))
