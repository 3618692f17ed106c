-- Laws of saving: bytes as a number, byte by byte; a state that is saved comes back the same.
use Prim.Native.Nat.{ℕ, zero, suc, ◌+◌, ◌*◌, ◌-◌, ◌/◌, ◌%◌, ◌^◌, ◌<◌, ◌≤◌}
use mathlib.Core.Path.{◌≡◌, refl, sym, ◌∙◌}
use mathlib.Core.Bool.{false}
use mathlib.Core.List.{List, [], ◌∷◌, ◌++◌}
use native.Mathlib.Nat.{add-zero, div-one, mod-eq_of_lt}
use native.Mathlib.Omega.{arith}
use lib.ListN.{length, get_or, drop}
use lib.Pow.{pow_mono}
use Rattle.bits.specs.Spell.{spell}
use Rattle.bits.specs.Bytes.{bit_at, Bytes, bytes_of}
use Rattle.bits.proofs.Spelling.{spell_lt, spell_add}
use Rattle.bits.proofs.ByteBits.{bit_at_lt, spell-byte, spell-drop, spell_front, spell-bytes_of, length-bytes_of}
use Rattle.groups.specs.declared.Group.{Group}
use Rattle.groups.specs.Group.{empty_of, with_block_of, word_of, good_of}
use Rattle.receiver.specs.declared.Receiver.{Receiver}
use Rattle.receiver.specs.Feeding.{byte_bits}
use Rattle.std.specs.Prelude.{IsOk}
use borrow.Author.Tests.{le-ltb}
use Rattle.saving.specs.Saving.{state_length, save_of, flag_of, place_number_of, state_bytes_of, saved_block_of}

-- ---- bytes as a number

-- one byte more
pub spell_next : (s : List ℕ) → Bytes s → (from i : ℕ)
    → spell (bit_at s) (byte_bits * from) (byte_bits * (i + 1))
    ≡ spell (bit_at s) (byte_bits * from) (byte_bits * i) * 256 + get_or s (from + i) 0
spell_next s byte from i =
    let e : byte_bits * (i + 1) ≡ byte_bits * i + byte_bits = omega arith in
    let f : byte_bits * from + byte_bits * i ≡ byte_bits * (from + i) = omega arith in
    rw e (spell_add (bit_at s) (bit_at_lt s) (byte_bits * from) (byte_bits * i) byte_bits ∙ rw (f, spell-byte s byte (from + i)))

-- fewer than eight bytes leave room for one more
pub spell_room : (s : List ℕ) (from i : ℕ) → i < 8 → spell (bit_at s) from (byte_bits * i) < 2 ^ 56
spell_room s from i h =
    let l : spell (bit_at s) from (byte_bits * i) < 2 ^ (byte_bits * i) = spell_lt (bit_at s) (bit_at_lt s) from (byte_bits * i) in
    let m : 2 ^ (byte_bits * i) ≤ 2 ^ 56 = pow_mono {i = byte_bits * i} {j = 56} (omega arith) in
    omega arith

-- a number that was written as n bytes from byte a on is read back
pub spell-written : (s q : List ℕ) (a n x : ℕ) → drop a s ≡ bytes_of n x ++ q → x < 2 ^ (byte_bits * n)
    → spell (bit_at s) (byte_bits * a) (byte_bits * n) ≡ x
spell-written s q a n x e h =
    let z : byte_bits * n - (0 + byte_bits * n) ≡ 0 = omega arith in
    sym (spell-drop a s 0 (byte_bits * n) ∙ rw (add-zero (byte_bits * a)))
    ∙ rw e (spell_front (bytes_of n x) q 0 (byte_bits * n) (rw (length-bytes_of n x) (omega arith)))
    ∙ spell-bytes_of n x 0 (byte_bits * n) (omega arith)
    ∙ rw (z, div-one x) (mod-eq_of_lt h)

-- ---- the buffer

pub state-length : (r : Receiver) → length (state_bytes_of r) ≡ state_length
unfolding state_bytes_of bytes_of
state-length r = refl

-- the state's bytes one by one, where the place and the flags are numbers already
pub state_bytes_are : (r : Receiver) (place held good0 good1 good2 good3 : ℕ)
    → place ≡ place_number_of r.place → held ≡ flag_of r.held
    → good0 ≡ flag_of (get_or r.hand.good 0 false) → good1 ≡ flag_of (get_or r.hand.good 1 false)
    → good2 ≡ flag_of (get_or r.hand.good 2 false) → good3 ≡ flag_of (get_or r.hand.good 3 false)
    → (r.window / 0x100000000000000 % 256 ∷ r.window / 0x1000000000000 % 256 ∷ r.window / 0x10000000000 % 256
    ∷ r.window / 0x100000000 % 256 ∷ r.window / 0x1000000 % 256 ∷ r.window / 0x10000 % 256
    ∷ r.window / 0x100 % 256 ∷ r.window % 256 ∷ r.count ∷ place ∷ held
    ∷ get_or r.hand.words 0 0 / 256 % 256 ∷ get_or r.hand.words 0 0 % 256
    ∷ get_or r.hand.words 1 0 / 256 % 256 ∷ get_or r.hand.words 1 0 % 256
    ∷ get_or r.hand.words 2 0 / 256 % 256 ∷ get_or r.hand.words 2 0 % 256
    ∷ get_or r.hand.words 3 0 / 256 % 256 ∷ get_or r.hand.words 3 0 % 256
    ∷ good0 ∷ good1 ∷ good2 ∷ good3 ∷ r.run ∷ r.bad ∷ []) ≡ state_bytes_of r
unfolding state_bytes_of bytes_of word_of good_of
state_bytes_are r place held good0 good1 good2 good3 p h g0 g1 g2 g3 =
    rw (p, h, g0, g1, g2, g3) (simp div-one)

-- ---- the group in hand

-- the first so many of its blocks
unfoldable pub hand_before : List ℕ → ℕ → Group
hand_before s zero = empty_of
hand_before s (suc i) = with_block_of (hand_before s i) i (saved_block_of s i)

-- ---- the buffer

-- with room a state is saved
pub save-room : (out : List ℕ) → state_length ≤ length out → IsOk (save_of out)
unfolding save_of
save-room out h = rw (le-ltb (length out) state_length h)
