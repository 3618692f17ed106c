-- What is written is read back the same: the laws of the crates. Only four blocks are joined here, block by block.
use Prim.Native.Nat.{ℕ, zero, suc}
use mathlib.Core.Path.{◌≡◌, sym, ap}
use mathlib.Core.List.{List, [], ◌∷◌}
use native.Mathlib.Omega.{arith}
use lib.ListN.{length, get_or}
use Rattle.bits.specs.Bytes.{Bytes, bytes_of}
use Rattle.bits.proofs.ByteBits.{bytes_of-spell}
use Rattle.blocks.specs.Block.{judge_of}
use Rattle.blocks.specs.declared.Kind.TheVariants.{A, B, D}
use Rattle.std.specs.Prelude.{Ok}
use Rattle.blocks.proofs.Reading.{read-write, write_read, judge-write, write-judge}
use Rattle.groups.specs.Header.{third_kind}
use Rattle.groups.specs.Written.{group_size, blocks_of, four_blocks, group_bytes, block_in}
use Rattle.groups.proofs.RoundTrip.{block_in_group, group-read_back, spell_blocks, group-written_back}
use Rattle.clock.proofs.RoundTrip as clock
use Rattle.frequencies.proofs.FrequencyLaws.{code_of-frequency, frequency_of-code}
use Rattle.saving.proofs.SavedBack.{restore_buffer}
use Rattle.history.proofs.Agrees.{receiver_agrees}
use Rattle.station.proofs.Agreement.{record_agrees}
use Rattle.demands.specs.ReadBack.{Word, BlocksBack, FourBlocksBack, BytesBack, ClockBack, FrequenciesBack}
use Rattle.demands.specs.ReadBack.{ReceiverAgrees, StateBack, RecordAgrees, Demand2}

pub blocks_back : BlocksBack
blocks_back =
    record { read-write = read-write; write_read = write_read; judge-write = judge-write; write-judge = write-judge }

-- ---- four blocks

module _ (a b c d one two three four : ℕ) where
  blocks_read : Word a → Word b → Word c → Word d → blocks_of (a ∷ b ∷ c ∷ d ∷ []) ≡ one ∷ two ∷ three ∷ four ∷ []
      → (judge_of one A ≡ Ok a) × (judge_of two B ≡ Ok b) × (judge_of three (third_kind b) ≡ Ok c)
      × (judge_of four D ≡ Ok d)
  unfolding blocks_of
  blocks_read la lb lc ld e =
      let at : (i : ℕ) → get_or (blocks_of (a ∷ b ∷ c ∷ d ∷ [])) i 0 ≡ get_or (one ∷ two ∷ three ∷ four ∷ []) i 0 =
      λ i. ap (λ (l : List ℕ). get_or l i 0) e in (
        rw (sym (at 0)) (judge-write a A la),
        rw (sym (at 1)) (judge-write b B lb),
        rw (sym (at 2)) (judge-write c (third_kind b) lc),
        rw (sym (at 3)) (judge-write d D ld),
      )

  blocks_written : judge_of one A ≡ Ok a → judge_of two B ≡ Ok b → judge_of three (third_kind b) ≡ Ok c
      → judge_of four D ≡ Ok d → blocks_of (a ∷ b ∷ c ∷ d ∷ []) ≡ one ∷ two ∷ three ∷ four ∷ []
  unfolding blocks_of
  blocks_written p q r s =
      rw (write-judge one a A p, write-judge two b B q, write-judge three c (third_kind b) r, write-judge four d D s)

pub four_blocks_back : FourBlocksBack
four_blocks_back =
    record {
      judge-write = λ a b c d la lb lc ld one two three four e. blocks_read a b c d one two three four la lb lc ld e;
      write-judge = blocks_written;
    }

-- ---- thirteen bytes

-- each of four words, and nothing past them
all_words : (a b c d : ℕ) → Word a → Word b → Word c → Word d → (i : ℕ) → Word (get_or (a ∷ b ∷ c ∷ d ∷ []) i 0)
all_words a b c d la lb lc ld zero = la
all_words a b c d la lb lc ld (suc zero) = lb
all_words a b c d la lb lc ld (suc (suc zero)) = lc
all_words a b c d la lb lc ld (suc (suc (suc zero))) = ld
all_words a b c d la lb lc ld (suc (suc (suc (suc i)))) = omega arith

module _ (a b c d : ℕ) (la : Word a) (lb : Word b) (lc : Word c) (ld : Word d) where
  bytes-blocks : (bytes : List ℕ) → group_bytes (a ∷ b ∷ c ∷ d ∷ []) ≡ bytes
      → block_in bytes 0 ∷ block_in bytes 1 ∷ block_in bytes 2 ∷ block_in bytes 3 ∷ [] ≡ blocks_of (a ∷ b ∷ c ∷ d ∷ [])
  unfolding blocks_of
  bytes-blocks bytes e =
      let block = block_in_group (a ∷ b ∷ c ∷ d ∷ []) (all_words a b c d la lb lc ld) in
      rw (
        sym e,
        block 0 (omega arith),
        block 1 (omega arith),
        block 2 (omega arith),
        block 3 (omega arith),
      )

blocks_bytes : (s : List ℕ) → Bytes s → length s ≡ group_size
    → bytes_of group_size (four_blocks (block_in s 0) (block_in s 1) (block_in s 2) (block_in s 3)) ≡ s
blocks_bytes s byte long = rw (← spell_blocks s) (bytes_of-spell group_size s byte long)

pub bytes_back : BytesBack
bytes_back =
    record {
      blocks_read = bytes-blocks;
      blocks_written = blocks_bytes;
      read-write = λ a b c d la lb lc ld. group-read_back a b c d (all_words a b c d la lb lc ld);
      write_read = group-written_back;
    }

-- ---- clock and frequencies

pub clock_back : ClockBack
clock_back =
    record {
      read-write = clock.read-write;
      same = clock.plain-same;
      head = λ pi tp pty c word1 word2 word3 word4 e.
          let h = clock.written-head pi tp pty c word1 word2 word3 word4 e in (h.0, h.1, h.2, h.3);
      write_read = clock.write_read;
    }

pub frequencies_back : FrequenciesBack
frequencies_back = record { code_of-frequency = code_of-frequency; frequency_of-code = frequency_of-code }

-- ---- all that came so far

pub receiver_says : ReceiverAgrees
receiver_says =
    record { answer = λ bits bit. (receiver_agrees bits bit).0; group = λ bits bit. (receiver_agrees bits bit).1 }

pub state_back : StateBack
state_back = record { restore_save = restore_buffer }

pub record_says : RecordAgrees
record_says = record { record_after = record_agrees }

pub demand_2 : Demand2
demand_2 =
    record {
      blocks = blocks_back;
      four_blocks = four_blocks_back;
      bytes = bytes_back;
      clock = clock_back;
      frequencies = frequencies_back;
      receiver = receiver_says;
      state = state_back;
      station = record_says;
    }
