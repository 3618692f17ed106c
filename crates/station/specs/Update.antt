-- The record after one group: one definition for each rule, in the order of the rules.
use Rattle.std.specs.Prelude.{ℕ, ◌+◌, ◌*◌, Bool, true, false, cond, not, List, [], ◌∷◌, eqb, leb, set, Option, Some, None}
use Rattle.std.specs.Bool.{beq}
use Rattle.frequencies.specs.declared.AfList.{AfList}
use Rattle.frequencies.specs.AfList.{taken_of}
use Rattle.clock.specs.declared.Clock.{Clock}
use Rattle.clock.specs.Words.{read_of}
use Rattle.groups.specs.declared.Group.{Group}
use Rattle.groups.specs.declared.fields.Content.{Content}
use Rattle.groups.specs.declared.fields.Content.TheVariants.{Name0A, Name0B, Text2A, Text2B, Clock4A, Other}
use Rattle.groups.specs.Group.{word_of, counts_of}
use Rattle.groups.specs.Content.{header_of, content_of, first_of, second_of}
use Rattle.station.specs.declared.pairs.Pairs.{Pairs}
use Rattle.station.specs.declared.Text.{Text}
use Rattle.station.specs.declared.Record.{Record}
use Rattle.station.specs.Record.{Name, no_text, fresh_with}

-- ---- PI, PTY and TP

-- this PI is held
unfoldable pub holds_pi : Option ℕ → ℕ → Bool
holds_pi (Some held) pi = eqb held pi
holds_pi None pi = false

-- PI missing or different: the record is made fresh with this PI first
unfoldable pub held_for : Record → ℕ → Record
held_for station pi = cond (holds_pi station.pi pi) station (fresh_with (Some pi))

-- ---- name and text

-- pair p is characters 2p and 2p+1, the first in the high byte of its word
abbrev pub pair_stored : List ℕ → ℕ → ℕ → List ℕ
pair_stored characters p word = set (set characters (2 * p) (first_of word)) (2 * p + 1) (second_of word)

-- characters are stored and marked seen, by pairs; nothing changes where there is no such pair
unfoldable pub pairs_stored : {size pairs : ℕ} → Pairs size pairs → ℕ → ℕ → Pairs size pairs
pairs_stored {size} {pairs} old p word =
    cond (leb pairs p) old
    (record { characters = pair_stored old.characters p word; seen = set old.seen p true })

-- a pair of the name
abbrev pub name_stored : Name → ℕ → ℕ → Name
name_stored name p word = pairs_stored name p word

-- 0A, 0B: word 4 has name characters 2a and 2a+1
unfoldable pub name_after : Name → Content → Name
name_after name (Name0A switches a af pair) = name_stored name a pair
name_after name (Name0B switches a pair) = name_stored name a pair
name_after name (Text2A flag a first second) = name
name_after name (Text2B flag a pair) = name
name_after name Clock4A = name
name_after name Other = name

-- the same for the text
unfoldable pub text_stored : Text → ℕ → ℕ → Text
text_stored text p word = record { pairs = pairs_stored text.pairs p word; flag = text.flag }

-- the text with a flag held
abbrev pub with_flag : Text → Option Bool → Text
with_flag text flag = record { pairs = text.pairs; flag = flag }

-- another flag than this is held
unfoldable pub holds_other : Option Bool → Bool → Bool
holds_other (Some held) flag = not (beq held flag)
holds_other None flag = false

-- a text flag that differs from the one held first clears the text and its marks; the flag of the latest text group
-- is held, and where none was held nothing is cleared
unfoldable pub text_for : Text → Bool → Text
text_for text flag =
    cond (holds_other text.flag flag) (no_text (Some flag)) (with_flag text (Some flag))

-- 2A: words 3 and 4 have characters 4a to 4a+3; 2B: word 4 has characters 2a and 2a+1
unfoldable pub text_after : Text → Content → Text
text_after text (Name0A switches a af pair) = text
text_after text (Name0B switches a pair) = text
text_after text (Text2A flag a first second) =
    text_stored (text_stored (text_for text flag) (2 * a) first) (2 * a + 1) second
text_after text (Text2B flag a pair) = text_stored (text_for text flag) a pair
text_after text Clock4A = text
text_after text Other = text

-- ---- AF and clock

-- 0A: word 3 has two AF codes
unfoldable pub af_list_after : AfList → Content → AfList
af_list_after list (Name0A switches a af pair) = taken_of list af
af_list_after list (Name0B switches a pair) = list
af_list_after list (Text2A flag a first second) = list
af_list_after list (Text2B flag a pair) = list
af_list_after list Clock4A = list
af_list_after list Other = list

-- a clock in range is stored; otherwise the held one stays
unfoldable pub clock_or : Option Clock → Option Clock → Option Clock
clock_or (Some clock) held = Some clock
clock_or None held = held

-- 4A: words 2, 3 and 4 have a clock
unfoldable pub clock_after : Option Clock → Content → ℕ → ℕ → ℕ → Option Clock
clock_after held (Name0A switches a af pair) word2 word3 word4 = held
clock_after held (Name0B switches a pair) word2 word3 word4 = held
clock_after held (Text2A flag a first second) word2 word3 word4 = held
clock_after held (Text2B flag a pair) word2 word3 word4 = held
clock_after held Clock4A word2 word3 word4 = clock_or (read_of word2 word3 word4) held
clock_after held Other word2 word3 word4 = held

-- ---- the whole record

-- what a group carries
abbrev pub content_in : Group → Content
content_in group = content_of (word_of group 1) (word_of group 2) (word_of group 3)

-- PTY and TP are set; what the group carries goes to its part
unfoldable pub filled_of : Record → Group → Record
filled_of station group =
    record {
      pi = station.pi;
      pty = (header_of (word_of group 0) (word_of group 1)).pty;
      tp = (header_of (word_of group 0) (word_of group 1)).tp;
      name = name_after station.name (content_in group);
      text = text_after station.text (content_in group);
      af = af_list_after station.af (content_in group);
      clock = clock_after station.clock (content_in group) (word_of group 1) (word_of group 2) (word_of group 3);
    }

-- only groups with all four blocks good count
unfoldable pub updated_of : Record → Group → Record
updated_of station group = cond (counts_of group) (filled_of (held_for station (word_of group 0)) group) station

-- groups taken in one after the other
unfoldable pub updated_all : Record → List Group → Record
updated_all station [] = station
updated_all station (g ∷ gs) = updated_all (updated_of station g) gs
