-- How many bytes the encoder writes for a key: 13 for each address sent, 52 without text and 260 with it.
use Prim.Native.Nat.{ℕ, ◌*◌, ◌≤◌}
use mathlib.Core.Path.{◌≡◌, ap, ◌∙◌}
use mathlib.Core.List.{List}
use mathlib.Core.Bool.{true, false}
use native.Mathlib.Omega.{arith}
use lib.ListN.{length}
use Rattle.groups.specs.Written.{group_size}
use Rattle.keys.specs.Fields.{wanted_of}
use Rattle.keys.specs.Wanted.{addresses_of}
use Rattle.keys.proofs.WantedLaws.{addresses_wanted, addresses_unwanted, addresses_most, addresses_least}
use Rattle.encoder.specs.Encoding.{sent_of, size_of}
use Rattle.encoder.proofs.EncodingLaws.{length_encoding}
use Rattle.encoder.proofs.SentLaws.{length_sent}

module _ (k : List ℕ) where
  pub size_sent : size_of k ≡ group_size * length (sent_of k)
  unfolding size_of
  size_sent = length_encoding k (sent_of k)

  pub size_addresses : size_of k ≡ group_size * addresses_of k
  size_addresses = size_sent ∙ ap (λ (n : ℕ). group_size * n) (length_sent k)

  pub size_unwanted : wanted_of k ≡ false → size_of k ≡ 52
  size_unwanted w = size_addresses ∙ ap (λ (n : ℕ). group_size * n) (addresses_unwanted k w)

  pub size_wanted : wanted_of k ≡ true → size_of k ≡ 260
  size_wanted w = size_addresses ∙ ap (λ (n : ℕ). group_size * n) (addresses_wanted k w)

  pub size_least : 52 ≤ size_of k
  size_least = omega (arith, size_addresses, addresses_least k)

  pub size_most : size_of k ≤ 260
  size_most = omega (arith, size_addresses, addresses_most k)
