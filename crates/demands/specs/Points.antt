-- The lines marked P in the rules, as one list; the one claim is that all of them hold.
use Rattle.std.specs.Prelude.{ℕ, ◌+◌, ◌*◌, ◌^◌, ◌<◌, ◌≡◌, List, [], ◌∷◌, ◌++◌, true, false, Some, Ok}
use Rattle.std.specs.Int.Bits.{bit_xor}
use Rattle.bits.specs.Bytes.{bytes_of}
use Rattle.blocks.specs.Block.{check_of, Valid}
use Rattle.blocks.specs.declared.Kind.TheVariants.{A, B, C, D}
use Rattle.groups.specs.Group.{all_good_of}
use Rattle.groups.specs.Content.{header_of, content_of, first_of, second_of}
use Rattle.groups.specs.Written.{four_blocks, group_in}
use Rattle.groups.specs.declared.fields.Content.TheVariants.{Name0A}
use Rattle.clock.specs.Words.{read_of}
use Rattle.clock.specs.Calendar.{dated, date_of}
use Rattle.clock.specs.Local.{local_date_of}
use Rattle.clock.specs.declared.Clock.{Clock}
use Rattle.clock.specs.declared.DateTime.{DateTime}
use Rattle.frequencies.specs.Frequency.{frequency_of, frequency_number}

-- each statement of a list holds
abbrev pub AllHold : List (Type 0) → Type 0
AllHold [] = Unit {0}
AllHold (line ∷ lines) = line × AllHold lines

-- word 0000, A: check 0FC. 0001, A: 145. FFFF, A: 031
abbrev pub check_lines : List (Type 0)
check_lines = (check_of 0x0000 A ≡ 0x0FC) ∷ (check_of 0x0001 A ≡ 0x145) ∷ (check_of 0xFFFF A ≡ 0x031) ∷ []

-- group 1001/24E, 0000/198, E0CD/1E9, 4142/0CA (word/check)
abbrev pub group_check_lines : List (Type 0)
group_check_lines =
    (check_of 0x1001 A ≡ 0x24E) ∷ (check_of 0x0000 B ≡ 0x198) ∷ (check_of 0xE0CD C ≡ 0x1E9) ∷
    (check_of 0x4142 D ≡ 0x0CA) ∷ []

-- the same group, read: four good words, 0A, PI 1001, address 0, characters "AB"
abbrev pub sample : List ℕ
sample = 0x1001 ∷ 0x0000 ∷ 0xE0CD ∷ 0x4142 ∷ []

abbrev pub sample_bytes : List ℕ
sample_bytes =
    bytes_of 13 (four_blocks (0x1001 * 2 ^ 10 + 0x24E) (0x0000 * 2 ^ 10 + 0x198) (0xE0CD * 2 ^ 10 + 0x1E9)
    (0x4142 * 2 ^ 10 + 0x0CA))

abbrev pub group_lines : List (Type 0)
group_lines =
    (group_in sample_bytes ≡ all_good_of sample) ∷ ((header_of 0x1001 0x0000).pi ≡ 0x1001)
    ∷ (content_of 0x0000 0xE0CD 0x4142 ≡ Name0A (record { ta = false; ms = false; di = false }) 0 0xE0CD 0x4142)
    ∷ (first_of 0x4142 ∷ second_of 0x4142 ∷ [] ≡ 65 ∷ 66 ∷ []) ∷ []

-- word 0000 with check 198 is valid as B, not as A; 0FC and 198 differ within seven neighbouring bits
abbrev pub kind_lines : List (Type 0)
kind_lines =
    Valid B 0x0000198 ∷ (Valid A 0x0000198 → ⊥)
    ∷ ((s c : ℕ) × (bit_xor 0x0FC 0x198 ≡ s * 2 ^ c) × (s < 2 ^ 7)) ∷ []

-- 4A words 4001, 6145, 7EEA: day 45218, 23:59, offset -10; its local date: 1982-09-06, Monday, 18:59
abbrev pub evening : Clock
evening = record { day = record { 0 = 45218 }; hour = 23; minute = 59; negative = true; half = 10 }

abbrev pub evening_local : DateTime
evening_local = record { year = 1982; month = 9; day = 6; weekday = 1; hour = 18; minute = 59 }

-- day 15,079 is 1900-03-01; 88,127 is 2100-02-28
abbrev pub clock_lines : List (Type 0)
clock_lines =
    (read_of 0x4001 0x6145 0x7EEA ≡ Some evening) ∷ (local_date_of (Some evening) ≡ Ok evening_local)
    ∷ (date_of (record { 0 = 15079 }) ≡ dated 1900 3 1) ∷ (date_of (record { 0 = 88127 }) ≡ dated 2100 2 28) ∷ []

-- code 1: 87,600 kHz. Code 204: 107,900. Code 205: answer 11
abbrev pub frequency_lines : List (Type 0)
frequency_lines = (frequency_of 1 ≡ Ok 87600) ∷ (frequency_of 204 ≡ Ok 107900) ∷
    (frequency_number (frequency_of 205) ≡ 11) ∷ []

-- the P lines
abbrev pub points : List (Type 0)
points = check_lines ++ (group_check_lines ++ (group_lines ++ (kind_lines ++ (clock_lines ++ frequency_lines))))
