-- The station record: groups in bytes, and the record after them as numbers of eight bytes each.
use Rattle.std.specs.Prelude.{ℕ, zero, suc, ◌+◌, ◌-◌, ◌*◌, ◌/◌, ◌%◌, ◌^◌, Bool, false, cond, List, [], ◌∷◌, ◌++◌, eqb, ltb, length, get_or, drop}
use Rattle.std.specs.Prelude.{Option, Some, None, Ok, Err}
use Rattle.blocks.specs.Block.{Judged}
use Rattle.blocks.specs.declared.BlockError.TheVariants.{Bad}
use Rattle.groups.specs.declared.Group.{Group}
use Rattle.groups.specs.Group.{empty_of, with_block_of}
use Rattle.clock.specs.Local.{local_date_of}
use Rattle.station.specs.declared.Record.{Record}
use Rattle.station.specs.Record.{fresh_of, pi_of, pty_of, tp_of, name_characters_of, name_seen_of}
use Rattle.station.specs.Record.{text_characters_of, text_seen_of, text_flag_of, af_list_of, held_clock_of}
use Rattle.station.specs.Update.{updated_of}
use Rattle.capi.specs.Groups.{bit_of}
use Rattle.capi.specs.Times.{held_code, local_code}
use Rattle.capi.specs.Frequencies.{list_code}

-- ---- groups in bytes, nine each: four words, high byte first, then the mask, its bit 3 for the first word

-- a word, good where the mark's last bit is 1
abbrev pub judged_of : ℕ → ℕ → Judged
judged_of mark word = cond (eqb (mark % 2) 1) (Ok word) (Err Bad)

-- the word at a place
abbrev pub pair_at : List ℕ → ℕ → ℕ
pair_at s at = get_or s at 0 * 256 + get_or s (at + 1) 0

-- the group at a place
unfoldable pub group_at : List ℕ → ℕ → Group
group_at s at =
    with_block_of (with_block_of (with_block_of (with_block_of empty_of
    0 (judged_of (get_or s (at + 8) 0 / 8) (pair_at s at)))
    1 (judged_of (get_or s (at + 8) 0 / 4) (pair_at s (at + 2))))
    2 (judged_of (get_or s (at + 8) 0 / 2) (pair_at s (at + 4))))
    3 (judged_of (get_or s (at + 8) 0) (pair_at s (at + 6)))

-- the record after the first n groups
unfoldable pub record_after : List ℕ → ℕ → Record
record_after s zero = fresh_of
record_after s (suc n) = updated_of (record_after s n) (group_at s (9 * n))

-- the record after all of them; what is left behind the last whole one is none
unfoldable pub record_in : List ℕ → Record
record_in s = record_after s (length s / 9)

-- ---- the numbers of a record

-- PI: 1 above it; 0 for none
abbrev pub pi_code : Option ℕ → ℕ
pi_code (Some pi) = 2 ^ 16 + pi
pi_code None = 0

-- the text flag: 2 more than it; 0 for none
abbrev pub flag_code : Option Bool → ℕ
flag_code (Some flag) = 2 + bit_of flag
flag_code None = 0

-- first PI, PTY, TP, the text flag, the clock, and the local date
abbrev pub head_of : Record → ℕ → ℕ
head_of station n =
    cond (eqb n 0) (pi_code (pi_of station))
    (cond (eqb n 1) (pty_of station)
    (cond (eqb n 2) (bit_of (tp_of station))
    (cond (eqb n 3) (flag_code (text_flag_of station))
    (cond (eqb n 4) (held_code (held_clock_of station)) (local_code (local_date_of (held_clock_of station)))))))

-- characters, then the marks of which pairs of them were seen
abbrev pub shown_number : List ℕ → List Bool → ℕ → ℕ
shown_number characters seen n =
    cond (ltb n (length characters)) (get_or characters n 0) (bit_of (get_or seen (n - length characters) false))

-- the name: 8 characters, then 4 marks
abbrev pub name_number : Record → ℕ → ℕ
name_number station n =
    cond (ltb n 8) (get_or (name_characters_of station) n 0) (bit_of (get_or (name_seen_of station) (n - 8) false))

-- the text: 64 characters, then 32 marks
abbrev pub text_number : Record → ℕ → ℕ
text_number station n =
    cond (ltb n 64) (get_or (text_characters_of station) n 0) (bit_of (get_or (text_seen_of station) (n - 64) false))

-- one after the other, and last the AF list
unfoldable pub number_of : Record → ℕ → ℕ
number_of station n =
    cond (ltb n 6) (head_of station n)
    (cond (ltb n 18) (name_number station (n - 6))
    (cond (ltb n 114) (text_number station (n - 18)) (list_code (af_list_of station) (n - 114))))

-- ---- and their bytes

-- the bytes of 141 numbers
abbrev pub record_size : ℕ
record_size = 1128

-- byte i of the numbers, eight to a number, highest first
abbrev pub byte_of : Record → ℕ → ℕ
byte_of station i = number_of station (i / 8) / 2 ^ (56 - 8 * (i % 8)) % 256

-- the first n bytes
unfoldable pub bytes_to : Record → ℕ → List ℕ
bytes_to station zero = []
bytes_to station (suc n) = bytes_to station n ++ byte_of station n ∷ []

-- a buffer that is too short stays as it is; any other has the bytes in front, and those beyond as they were
unfoldable pub record_buffer : Record → List ℕ → List ℕ
record_buffer station out =
    cond (ltb (length out) record_size) out (bytes_to station record_size ++ drop record_size out)
