-- A stream that meets the laws' hypotheses, so that they say something: the four groups of a name, "ABCDEFGH" with PI
-- 1001, as 52 bytes. Fed from the first bit on to a fresh receiver, they are answered as sent.
use Prim.Native.Nat.{ℕ}
use mathlib.Core.Path.{◌≡◌, refl, ◌∙◌}
use mathlib.Core.List.{List, [], ◌∷◌}
use mathlib.Core.Bool.{Bool, true}
use native.Mathlib.Omega.{arith}
use Rattle.bits.specs.Spell.{spell}
use Rattle.bits.specs.Bytes.{bit_at}
use Rattle.bits.proofs.Computed.{all_below, below_at}
use Rattle.bits.proofs.ByteBits.{bit_at_lt}
use Rattle.blocks.specs.Block.{valid}
use Rattle.blocks.specs.Divide.{over_bits, reduced, remainder}
use Rattle.blocks.proofs.Validity.{true-valid}
use Rattle.groups.specs.Group.{all_good_of}
use Rattle.groups.specs.Header.{third_kind}
use Rattle.receiver.specs.Machine.{fresh_of}
use Rattle.history.specs.Streams.{bits_from, sent_block, sent_kind, ValidBlocks, sent_groups}
use Rattle.history.proofs.Answered.{answered_of, all-groups-answered}

pub name_bytes : List ℕ
name_bytes =
    0x10 ∷ 0x01 ∷ 0x93 ∷ 0x80 ∷ 0x00 ∷ 0x19 ∷ 0x8E ∷ 0x0C ∷ 0xD7 ∷ 0xA5 ∷ 0x05 ∷ 0x08 ∷ 0xCA
    ∷ 0x10 ∷ 0x01 ∷ 0x93 ∷ 0x80 ∷ 0x00 ∷ 0x42 ∷ 0x1E ∷ 0x0C ∷ 0xD7 ∷ 0xA5 ∷ 0x0D ∷ 0x11 ∷ 0x5D
    ∷ 0x10 ∷ 0x01 ∷ 0x93 ∷ 0x80 ∷ 0x00 ∷ 0xAE ∷ 0xAE ∷ 0x0C ∷ 0xD7 ∷ 0xA5 ∷ 0x15 ∷ 0x18 ∷ 0xE7
    ∷ 0x10 ∷ 0x01 ∷ 0x93 ∷ 0x80 ∷ 0x00 ∷ 0xF5 ∷ 0x3E ∷ 0x0C ∷ 0xD7 ∷ 0xA5 ∷ 0x1D ∷ 0x22 ∷ 0x73 ∷ []

name_test : ℕ → Bool
name_test j = valid (sent_kind (bit_at name_bytes) j) (sent_block (bit_at name_bytes) j)

name_computed : all_below name_test 16 ≡ true
unfolding all_below name_test name_bytes bit_at spell valid remainder over_bits reduced third_kind
name_computed = refl

pub name-valid : ValidBlocks (bit_at name_bytes) 0 16
unfolding name_test
name-valid j _ h =
    true-valid (sent_kind (bit_at name_bytes) j) (sent_block (bit_at name_bytes) j)
    (below_at name_test 16 name_computed j (omega arith))

pub name-answered : answered_of fresh_of (bits_from (bit_at name_bytes) 0 416)
    ≡ all_good_of (0x1001 ∷ 0x0000 ∷ 0xE0CD ∷ 0x4142 ∷ []) ∷ all_good_of (0x1001 ∷ 0x0001 ∷ 0xE0CD ∷ 0x4344 ∷ [])
    ∷ all_good_of (0x1001 ∷ 0x0002 ∷ 0xE0CD ∷ 0x4546 ∷ []) ∷ all_good_of (0x1001 ∷ 0x0003 ∷ 0xE0CD ∷ 0x4748 ∷ []) ∷ []
unfolding sent_groups spell bit_at name_bytes
name-answered = all-groups-answered (bit_at name_bytes) (bit_at_lt name_bytes) 4 name-valid ∙ refl
