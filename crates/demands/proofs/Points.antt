-- The P lines hold: each is computed from the definitions.
use mathlib.Core.Path.{◌≡◌, refl}
use mathlib.Core.List.{List, [], ◌∷◌, ◌++◌}
use lib.Dec.{lit<}
use native.Mathlib.Omega.{arith}
use Rattle.bits.specs.Spell.{spell}
use Rattle.bits.specs.Bytes.{bit_at, bytes_of}
use Rattle.groups.specs.Group.{with_block_of}
use Rattle.groups.specs.Header.{third_kind}
use Rattle.groups.specs.Content.{header_of, content_of}
use Rattle.groups.specs.Written.{group_in, block_in, word_in, four_blocks}
use Rattle.clock.proofs.Points.{evening-read, evening-local, date-first, date_last}
use Rattle.frequencies.specs.Frequency.{frequency_of}
use Rattle.blocks.specs.Divide.{remainder, over_bits, reduced}
use Rattle.blocks.specs.Block.{check_of, valid, Valid, judge_of}
use Rattle.blocks.specs.declared.Kind.TheVariants.{A, B}
use Rattle.blocks.proofs.Validity.{true-valid, valid-left}
use Rattle.demands.specs.Points.{
  AllHold,
  check_lines,
  group_check_lines,
  group_lines,
  kind_lines,
  clock_lines,
  frequency_lines,
  points,
}

valid_as_b : Valid B 0x0000198
unfolding valid remainder over_bits reduced
valid_as_b = true-valid B 0x0000198 refl

not-valid_as_a : Valid A 0x0000198 → ⊥
unfolding remainder over_bits reduced
not-valid_as_a v = let e : remainder 0x0000198 ≡ 0x0FC = valid-left A 0x0000198 v in omega arith

check_lines_lem : AllHold check_lines
unfolding check_of remainder over_bits reduced
check_lines_lem = (refl, (refl, (refl, tt)))

group-check_lines : AllHold group_check_lines
unfolding check_of remainder over_bits reduced
group-check_lines = (refl, (refl, (refl, (refl, tt))))

group_lines_lem : AllHold group_lines
unfolding group_in with_block_of block_in word_in spell bit_at bytes_of four_blocks judge_of valid remainder over_bits reduced
    third_kind header_of content_of
group_lines_lem = (refl, (refl, (refl, (refl, tt))))

kind_lines_lem : AllHold kind_lines
kind_lines_lem = (valid_as_b, (not-valid_as_a, ((0x59, 2, refl, lit< tt), tt)))

clock_lines_lem : AllHold clock_lines
clock_lines_lem = (evening-read, (evening-local, (date-first, (date_last, tt))))

frequency_lines_lem : AllHold frequency_lines
unfolding frequency_of
frequency_lines_lem = (refl, (refl, (refl, tt)))

-- lists of lines that hold, one after the other
join : (ps qs : List (Type 0)) → AllHold ps → AllHold qs → AllHold (ps ++ qs)
join [] qs h k = k
join (p ∷ ps) qs h k = (h.0, join ps qs h.1 k)

-- all of them
pub points_hold : AllHold points
points_hold =
    let fifth = clock_lines ++ frequency_lines in
    let fourth = kind_lines ++ fifth in
    let third = group_lines ++ fourth in
    let second = group_check_lines ++ third in
    join check_lines second check_lines_lem
    (join group_check_lines third group-check_lines
    (join group_lines fourth group_lines_lem
    (join kind_lines fifth kind_lines_lem
    (join clock_lines frequency_lines clock_lines_lem frequency_lines_lem))))
