-- Which addresses are wanted, and how much of the text counts: four characters to each text address.
use Prim.Native.Nat.{ℕ, ◌+◌, ◌/◌, ◌≤◌, ◌<◌}
use mathlib.Core.Path.{◌≡◌, refl}
use mathlib.Core.List.{List}
use mathlib.Core.Bool.{Bool, true, false, cond}
use native.Mathlib.Omega.{arith}
use borrow.Author.Tests.{ltb-true, lt-ltb}
use Rattle.keys.specs.Fields.{wanted_of}
use Rattle.keys.specs.Wanted.{name_addresses, all_addresses, text_size, addresses_of, wanted_address, text_length_of}

module _ (k : List ℕ) where
  pub address_wanted : (a : ℕ) → a < addresses_of k → wanted_address k a ≡ true
  unfolding wanted_address
  address_wanted a l = lt-ltb a (addresses_of k) l

  pub wanted_address_lem : (a : ℕ) → wanted_address k a ≡ true → a < addresses_of k
  unfolding wanted_address
  wanted_address_lem a e = ltb-true a (addresses_of k) e

  pub addresses_wanted : wanted_of k ≡ true → addresses_of k ≡ all_addresses
  unfolding addresses_of
  addresses_wanted w = rw w

  pub addresses_unwanted : wanted_of k ≡ false → addresses_of k ≡ name_addresses
  unfolding addresses_of
  addresses_unwanted w = rw w

  pub length_wanted : wanted_of k ≡ true → text_length_of k ≡ text_size
  unfolding text_length_of
  length_wanted w = rw w

  pub length_unwanted : wanted_of k ≡ false → text_length_of k ≡ 0
  unfolding text_length_of
  length_unwanted w = rw w

  -- one text address for each four characters that count
  pub addresses_length : addresses_of k ≡ name_addresses + (text_length_of k + 3) / 4
  unfolding addresses_of text_length_of
  addresses_length = both (wanted_of k)
    where
      both : (b : Bool) → cond b all_addresses name_addresses ≡ name_addresses + (cond b text_size 0 + 3) / 4
      both true = refl
      both false = refl

  pub length_most : text_length_of k ≤ text_size
  unfolding text_length_of
  length_most = both (wanted_of k)
    where
      both : (b : Bool) → cond b text_size 0 ≤ text_size
      both true = omega arith
      both false = omega arith

  pub addresses_least : name_addresses ≤ addresses_of k
  addresses_least = omega (arith, addresses_length)

  pub addresses_most : addresses_of k ≤ all_addresses
  addresses_most = omega (arith, addresses_length, length_most)
