-- The station record in words: a line for each thing that it holds.
use Rattle.std.specs.Prelude.{ℕ, zero, suc, List, [], ◌∷◌, ◌++◌, Bool, cond, Option, Some, None}
use Rattle.frequencies.specs.AfList.{held_of, expected_of, at_of}
use Rattle.frequencies.specs.declared.AfList.{AfList}
use Rattle.clock.specs.Local.{local_date_of}
use Rattle.station.specs.Record.{pi_of, pty_of, tp_of, name_characters_of, name_seen_of}
use Rattle.station.specs.Record.{text_characters_of, text_seen_of, text_flag_of, af_list_of, held_clock_of}
use Rattle.station.specs.declared.Record.{Record}
use Rattle.letters.specs.Letters.{codes, decimal_of, character_text, joined}
use Rattle.telling.specs.Pieces.{Piece, Word, Number, Hex, line_text}
use Rattle.telling.specs.Lines.{none, bit_piece, clock_line, local_line}

-- ---- PI, PTY, TP and the name

abbrev pub pi_piece : Option ℕ → Piece
pi_piece (Some pi) = Hex pi
pi_piece None = none

abbrev pub station_line : Record → List Piece
station_line station =
    Word (codes "PI ") ∷ pi_piece (pi_of station) ∷ Word (codes "\nPTY ") ∷ Number (pty_of station)
    ∷ Word (codes "\nTP ") ∷ bit_piece (tp_of station) ∷ Word (codes "\nname \"") ∷ []

-- a pair that was seen is marked +, one that was not -
abbrev pub mark_text : Bool → List ℕ
mark_text seen = cond seen 43 45 ∷ []

abbrev pub seen_line : List Piece
seen_line = Word (codes "\" seen ") ∷ []

-- characters between quotes, and the marks of their pairs
abbrev pub shown_text : List ℕ → List Bool → List ℕ
shown_text characters seen = joined character_text characters ++ line_text seen_line ++ joined mark_text seen

unfoldable pub name_text : Record → List ℕ
name_text station = line_text (station_line station) ++ shown_text (name_characters_of station) (name_seen_of station)

-- ---- the text

abbrev pub text_line : List Piece
text_line = Word (codes "\ntext \"") ∷ []

unfoldable pub text_text : Record → List ℕ
text_text station = line_text text_line ++ shown_text (text_characters_of station) (text_seen_of station)

-- ---- the text flag, the AF list and the clock

abbrev pub flag_piece : Option Bool → Piece
flag_piece (Some flag) = bit_piece flag
flag_piece None = none

-- how many frequencies are held of those expected
abbrev pub list_line : Record → List Piece
list_line station =
    Word (codes "\nflag ") ∷ flag_piece (text_flag_of station) ∷ Word (codes "\nAF ")
    ∷ Number (held_of (af_list_of station)) ∷ Word (codes " of ") ∷ Number (expected_of (af_list_of station)) ∷ []

-- and the first n of them, in kHz
unfoldable pub frequencies_to : AfList → ℕ → List ℕ
frequencies_to list zero = []
frequencies_to list (suc n) = frequencies_to list n ++ 32 ∷ decimal_of (at_of list n)

unfoldable pub rest_text : Record → List ℕ
rest_text station =
    line_text (list_line station) ++ frequencies_to (af_list_of station) (held_of (af_list_of station))
    ++ line_text (clock_line (Word (codes "\nclock ")) (held_clock_of station))
    ++ line_text (local_line (Word (codes "\nlocal ")) (local_date_of (held_clock_of station)))

-- ---- all of it

unfoldable pub station_text : Record → List ℕ
station_text station = name_text station ++ text_text station ++ rest_text station
