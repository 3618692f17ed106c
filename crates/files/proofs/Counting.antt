-- A number that is at most a buffer's length counts bytes at its start.
use Prim.Native.Nat.{ℕ, ◌≤◌}
use mathlib.Core.Path.{sym}
use mathlib.Core.List.{List}
use lib.ListN.{length}
use lib.Seq.{length-take-le}
use Rattle.io.specs.Counts.{IsPrefixLen}

pub counts_within : (n : ℕ) (l : List ℕ) → n ≤ length l → IsPrefixLen n l
counts_within n l h = (h, sym (length-take-le n l h))
