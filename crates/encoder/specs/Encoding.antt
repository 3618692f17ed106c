-- What the encoder writes for a key: the groups that bring its addresses, one after the other, 13 bytes each.
use Rattle.std.specs.Prelude.{ℕ, zero, suc, List, [], ◌∷◌, ◌++◌, length}
use Rattle.groups.specs.Written.{group_bytes}
use Rattle.keys.specs.Wanted.{addresses_of}
use Rattle.encoder.specs.Words.{words_at}

-- the groups that bring these addresses, in this order
unfoldable pub encoding : List ℕ → List ℕ → List ℕ
encoding k [] = []
encoding k (a ∷ rest) = group_bytes (words_at k a) ++ encoding k rest

-- 0, 1, .. up to n - 1
unfoldable pub below : ℕ → List ℕ
below zero = []
below (suc n) = below n ++ n ∷ []

-- the addresses that the encoder sends: all that are wanted, from 0
unfoldable pub sent_of : List ℕ → List ℕ
sent_of k = below (addresses_of k)

-- how many bytes it writes
unfoldable pub size_of : List ℕ → ℕ
size_of k = length (encoding k (sent_of k))
