-- The state as bytes and back: 25 bytes, numbers highest byte first.
use Rattle.std.specs.Prelude.{ℕ, ◌+◌, ◌*◌, List, [], ◌∷◌, ◌++◌, Bool, cond, eqb, ltb, length, get_or, drop}
use Rattle.std.specs.Prelude.{Result, Ok, Err}
use Rattle.bits.specs.Spell.{spell}
use Rattle.bits.specs.Bytes.{bit_at, bytes_of}
use Rattle.blocks.specs.Block.{Judged}
use Rattle.blocks.specs.declared.BlockError.TheVariants.{Bad}
use Rattle.groups.specs.declared.Group.{Group}
use Rattle.groups.specs.Group.{empty_of, with_block_of, word_of, good_of}
use Rattle.receiver.specs.declared.Place.{Place}
use Rattle.receiver.specs.declared.Place.TheVariants.{Hunting, First, Second, Fourth}
use Rattle.receiver.specs.declared.Place.TheVariants.{ThirdC, ThirdCPrime, ThirdBad}
use Rattle.receiver.specs.declared.Receiver.{Receiver}
use Rattle.groups.specs.declared.bytes.TooShort.{TooShort}
use Rattle.receiver.specs.Feeding.{byte_bits}

-- ---- the places of the fields, as byte numbers

abbrev pub state_length : ℕ
state_length = 25

abbrev pub count_at : ℕ
count_at = 8

abbrev pub place_at : ℕ
place_at = 9

abbrev pub held_at : ℕ
held_at = 10

-- the four words, two bytes each
abbrev pub words_at : ℕ
words_at = 11

-- the mask, a byte for each word
abbrev pub mask_at : ℕ
mask_at = 19

abbrev pub run_at : ℕ
run_at = 23

abbrev pub bad_at : ℕ
bad_at = 24

-- ---- the state as bytes

-- a yes or no
abbrev pub flag_of : Bool → ℕ
flag_of on = cond on 1 0

-- a place as a number
abbrev pub place_number_of : Place → ℕ
place_number_of Hunting = 0
place_number_of First = 1
place_number_of Second = 2
place_number_of ThirdC = 3
place_number_of ThirdCPrime = 4
place_number_of ThirdBad = 5
place_number_of Fourth = 6

-- window; count, place, whether a group is in hand; its words; its mask; the run and its bad blocks
unfoldable pub state_bytes_of : Receiver → List ℕ
state_bytes_of r =
    bytes_of 8 r.window
    ++ r.count
    ∷ place_number_of r.place
    ∷ flag_of r.held
    ∷ (bytes_of 2 (word_of r.hand 0)
    ++ bytes_of 2 (word_of r.hand 1)
    ++ bytes_of 2 (word_of r.hand 2)
    ++ bytes_of 2 (word_of r.hand 3)
    ++ flag_of (good_of r.hand 0)
    ∷ flag_of (good_of r.hand 1)
    ∷ flag_of (good_of r.hand 2)
    ∷ flag_of (good_of r.hand 3)
    ∷ r.run
    ∷ r.bad
    ∷ [])

-- a buffer that is too short is refused
unfoldable pub save_of : List ℕ → Result (Unit {0}) TooShort
save_of out = cond (ltb (length out) state_length) (Err (record {})) (Ok tt)

-- 8 is "buffer too short"
abbrev pub saved_number : Result (Unit {0}) TooShort → ℕ
saved_number (Ok done) = 0
saved_number (Err too_short) = 8

-- the buffer then: unchanged where it is too short; else the state's bytes, and the bytes beyond as they were
unfoldable pub buffer_of : Receiver → List ℕ → List ℕ
buffer_of r out = cond (ltb (length out) state_length) out (state_bytes_of r ++ drop state_length out)

-- ---- and back; bytes that are missing are read as 0

-- a number as a place; a number that no place has is read as hunting
abbrev pub place_numbered_of : ℕ → Place
place_numbered_of n =
    cond (eqb n 1) First
    (cond (eqb n 2) Second
    (cond (eqb n 3) ThirdC
    (cond (eqb n 4) ThirdCPrime
    (cond (eqb n 5) ThirdBad
    (cond (eqb n 6) Fourth Hunting)))))

-- block i of the group in hand: good with its word where the mask says so
abbrev pub saved_block_of : List ℕ → ℕ → Judged
saved_block_of s i =
    cond (ltb 0 (get_or s (mask_at + i) 0)) (Ok (spell (bit_at s) (byte_bits * (words_at + 2 * i)) (byte_bits * 2))) (Err Bad)

-- the group in hand, block by block
abbrev pub saved_hand_of : List ℕ → Group
saved_hand_of s =
    with_block_of (with_block_of (with_block_of (with_block_of empty_of 0 (saved_block_of s 0)) 1 (saved_block_of s 1)) 2
    (saved_block_of s 2)) 3 (saved_block_of s 3)

-- any bytes give a state
unfoldable pub restore_of : List ℕ → Receiver
restore_of s =
    record {
      window = spell (bit_at s) 0 (byte_bits * 8);
      count = get_or s count_at 0;
      place = place_numbered_of (get_or s place_at 0);
      held = ltb 0 (get_or s held_at 0);
      hand = saved_hand_of s;
      run = get_or s run_at 0;
      bad = get_or s bad_at 0;
    }
