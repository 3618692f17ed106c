-- Putting a group's bytes into a buffer: with room they are pasted in, without it nothing changes.
use Prim.Native.Nat.{ℕ, ◌+◌, ◌<◌, ◌≤◌}
use mathlib.Core.Path.{◌≡◌, refl, ap, ◌∙◌}
use mathlib.Core.List.{List, ◌++◌}
use mathlib.Core.Bool.{cond}
use native.Mathlib.Omega.{arith}
use lib.ListN.{length, take, drop}
use lib.Seq.{paste, take_all}
use borrow.Author.Tests.{lt-ltb, le-ltb}
use Rattle.bits.proofs.ByteBits.{length-bytes_of}
use Rattle.groups.specs.Written.{group_size, group_bytes, no_room, put_at_of, buffer_of, four_blocks, block_of}
use Rattle.groups.specs.declared.bytes.TooShort.{TooShort}
use Rattle.std.specs.Prelude.{Result, Ok, Err, IsOk}

-- a group's bytes are thirteen
pub length-group : (words : List ℕ) → length (group_bytes words) ≡ group_size
unfolding group_bytes
length-group words = length-bytes_of group_size (four_blocks (block_of words 0) (block_of words 1) (block_of words 2)
    (block_of words 3))

-- without room
pub put_short : (words out : List ℕ) (at : ℕ) → length out < at + group_size
    → (◌≡◌ {A = Result (Unit {0}) TooShort} (Err (record {})) (put_at_of out at)) × (◌≡◌ {A = ℕ} 8 (cond (no_room out at) 8 0)) × (out ≡ buffer_of words out at)
unfolding no_room put_at_of buffer_of
put_short words out at h = rw (lt-ltb (length out) (at + group_size) h) (refl, refl, refl)

-- with room it is never refused
pub put_room : (out : List ℕ) (at : ℕ) → at + group_size ≤ length out → IsOk (put_at_of out at)
unfolding no_room put_at_of
put_room out at h = rw (le-ltb (length out) (at + group_size) h)

-- with room
pub put_done : (words out bytes after : List ℕ) (at : ℕ) → at + group_size ≤ length out → bytes ≡ group_bytes words
    → after ≡ paste out at bytes group_size
    → (◌≡◌ {A = Result (Unit {0}) TooShort} (Ok tt) (put_at_of out at)) × (◌≡◌ {A = ℕ} 0 (cond (no_room out at) 8 0)) × (after ≡ buffer_of words out at)
unfolding no_room put_at_of buffer_of
put_done words out bytes after at h e f =
    rw (le-ltb (length out) (at + group_size) h) (
      refl,
      refl,
      f ∙ ap (λ (b : List ℕ). take at out ++ take group_size b ++ drop (at + group_size) out) e
          ∙ ap (λ (b : List ℕ). take at out ++ b ++ drop (at + group_size) out)
          (take_all group_size (group_bytes words) (omega (arith, length-group words))),
    )
