-- The number of four blocks fits thirteen bytes: they are the last of its sixteen.
use Prim.Native.Nat.{ℕ}
use mathlib.Core.Path.{◌≡◌}
use native.Mathlib.Nat.{div-one}
use lib.ListN.{take, drop}
use Rattle.std.specs.Int.{w128, to_be_bytes}
use Rattle.bits.specs.Bytes.{bytes_of}

pub last_thirteen : (n : ℕ) → take 13 (drop 3 (to_be_bytes w128 n)) ≡ bytes_of 13 n
unfolding bytes_of
last_thirteen n = rw (div-one n)
