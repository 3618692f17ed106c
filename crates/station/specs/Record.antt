-- The station record: what it holds, and the fresh one.
use Rattle.std.specs.Prelude.{ℕ, Bool, false, cond, List, [], ◌∷◌, replicate, Option, Some, None}
use Rattle.frequencies.specs.declared.AfList.{AfList}
use Rattle.frequencies.specs.AfList.{empty_of}
use Rattle.clock.specs.declared.Clock.{Clock}
use Rattle.station.specs.declared.pairs.Pairs.{Pairs}
use Rattle.station.specs.declared.Text.{Text}
use Rattle.station.specs.declared.Record.{Record}

-- ---- the fresh record

-- a space, which stands where nothing was stored
abbrev pub space : ℕ
space = 32

-- the name has 8 characters, the text 64; each is seen by pairs
abbrev pub name_size : ℕ
name_size = 8

abbrev pub name_pairs : ℕ
name_pairs = 4

abbrev pub text_size : ℕ
text_size = 64

abbrev pub text_pairs : ℕ
text_pairs = 32

-- so many characters all spaces, and none of so many pairs seen
abbrev pub no_pairs : (size pairs : ℕ) → Pairs size pairs
no_pairs size pairs = record { characters = replicate size space; seen = replicate pairs false }

-- name all spaces, none seen
abbrev pub Name : Type 0
Name = Pairs name_size name_pairs

abbrev pub no_name : Name
no_name = no_pairs name_size name_pairs

-- text all spaces, none seen, with the flag given
abbrev pub no_text : Option Bool → Text
no_text flag = record { pairs = no_pairs text_size text_pairs; flag = flag }

-- PTY and TP 0; name and text all spaces, none seen; no text flag; no AF; no clock
abbrev pub fresh_with : Option ℕ → Record
fresh_with pi =
    record { pi = pi; pty = 0; tp = false; name = no_name; text = no_text None; af = empty_of; clock = None }

-- fresh: no PI either
abbrev pub fresh_of : Record
fresh_of = fresh_with None

-- ---- what a record holds

abbrev pub pi_of : Record → Option ℕ
pi_of station = station.pi

abbrev pub pty_of : Record → ℕ
pty_of station = station.pty

abbrev pub tp_of : Record → Bool
tp_of station = station.tp

abbrev pub name_characters_of : Record → List ℕ
name_characters_of station = station.name.characters

abbrev pub name_seen_of : Record → List Bool
name_seen_of station = station.name.seen

abbrev pub text_characters_of : Record → List ℕ
text_characters_of station = station.text.pairs.characters

abbrev pub text_seen_of : Record → List Bool
text_seen_of station = station.text.pairs.seen

abbrev pub text_flag_of : Record → Option Bool
text_flag_of station = station.text.flag

abbrev pub af_list_of : Record → AfList
af_list_of station = station.af

abbrev pub held_clock_of : Record → Option Clock
held_clock_of station = station.clock

-- ---- numbers and values of the cases: none of them is a refusal of the table

abbrev pub number_of_pi : Option ℕ → ℕ
number_of_pi (Some pi) = 0
number_of_pi None = 0

abbrev pub values_of_pi : Option ℕ → List ℕ
values_of_pi (Some pi) = pi ∷ []
values_of_pi None = []

abbrev pub number_of_flag : Option Bool → ℕ
number_of_flag (Some flag) = 0
number_of_flag None = 0

abbrev pub values_of_flag : Option Bool → List ℕ
values_of_flag (Some flag) = cond flag 1 0 ∷ []
values_of_flag None = []
