-- The lines of a recording: where lock is taken and lost, and each group. A line is its pieces, one behind the other.
use Rattle.std.specs.Prelude.{ℕ, ◌+◌, List, [], ◌∷◌, ◌++◌, Bool, cond, Option, Some, None, Result, Ok, Err}
use Rattle.groups.specs.Group.{word_of, good_of, is_all_good_of}
use Rattle.groups.specs.Header.{type_of, version_of}
use Rattle.groups.specs.Content.{content_of, first_of, second_of}
use Rattle.groups.specs.declared.Group.{Group}
use Rattle.groups.specs.declared.fields.Content.{Content}
use Rattle.groups.specs.declared.fields.Content.TheVariants.{Name0A, Name0B, Text2A, Text2B, Clock4A, Other}
use Rattle.frequencies.specs.Frequency.{frequency_of}
use Rattle.frequencies.specs.declared.NoFrequency.{NoFrequency}
use Rattle.clock.specs.Words.{read_of}
use Rattle.clock.specs.Local.{local_date_of}
use Rattle.clock.specs.declared.Clock.{Clock}
use Rattle.clock.specs.declared.DateTime.{DateTime}
use Rattle.clock.specs.declared.OutOfRange.{OutOfRange}
use Rattle.letters.specs.Letters.{codes}
use Rattle.telling.specs.Pieces.{Piece, Word, Number, Two, Hex, Character, Silent, line_text}

-- ---- signs

abbrev pub space : Piece
space = Character 32

abbrev pub hyphen : Piece
hyphen = Character 45

abbrev pub colon : Piece
colon = Character 58

abbrev pub quote : Piece
quote = Word (codes "\"")

abbrev pub end : Piece
end = Word (codes "\n")

abbrev pub none : Piece
none = Word (codes "none")

-- a yes or no as 1 or 0
abbrev pub bit_piece : Bool → Piece
bit_piece flag = Number (cond flag 1 0)

-- ---- lock

-- lock was taken, or lost, with this bit; the first bit of a recording is bit 0
abbrev pub lock_line : ℕ → List Piece
lock_line bit = Word (codes "lock ") ∷ Number bit ∷ end ∷ []

abbrev pub lost_line : ℕ → List Piece
lost_line bit = Word (codes "lost ") ∷ Number bit ∷ end ∷ []

-- ---- a group: its number, type and words

-- a word in hexadecimal, or ---- where its block was bad
abbrev pub word_piece : Group → ℕ → Piece
word_piece group i = cond (good_of group i) (Hex (word_of group i)) (Word (codes "----"))

-- the type, or -- where word 2 was bad; then A for version 0, B for version 1
abbrev pub type_piece : Group → Piece
type_piece group = cond (good_of group 1) (Number (type_of (word_of group 1))) (Word (codes "--"))

abbrev pub version_piece : Group → Piece
version_piece group = cond (good_of group 1) (Character (65 + version_of (word_of group 1))) Silent

abbrev pub head_line : ℕ → Group → List Piece
head_line number group =
    Word (codes "group ") ∷ Number number ∷ space ∷ type_piece group ∷ version_piece group
    ∷ space ∷ word_piece group 0 ∷ space ∷ word_piece group 1 ∷ space ∷ word_piece group 2 ∷ space ∷ word_piece group 3 ∷ []

-- ---- what it carries

-- the two characters of a word
abbrev pub pair_line : ℕ → List Piece
pair_line pair = Character (first_of pair) ∷ Character (second_of pair) ∷ []

-- a name pair at its address
abbrev pub name_line : ℕ → ℕ → List Piece
name_line address pair =
    Word (codes " name ") ∷ Number address ∷ Word (codes " \"") ∷ Character (first_of pair) ∷ Character (second_of pair)
    ∷ quote ∷ []

-- an AF code: its frequency in kHz, or the code itself where it has none
abbrev pub af_label : Result ℕ NoFrequency → Piece
af_label (Ok khz) = space
af_label (Err e) = Word (codes " code ")

abbrev pub af_piece : Result ℕ NoFrequency → ℕ → Piece
af_piece (Ok khz) code = Number khz
af_piece (Err e) code = Number code

abbrev pub codes_line : ℕ → ℕ → List Piece
codes_line one two =
    Word (codes " AF") ∷ af_label (frequency_of one) ∷ af_piece (frequency_of one) one
    ∷ af_label (frequency_of two) ∷ af_piece (frequency_of two) two ∷ []

-- the address and the flag of a text part, and its first two characters
abbrev pub part_line : ℕ → Bool → ℕ → List Piece
part_line address flag pair =
    Word (codes " text ") ∷ Number address ∷ Word (codes " flag ") ∷ bit_piece flag ∷ Word (codes " \"")
    ∷ pair_line pair

-- the sign of an offset
abbrev pub sign_piece : Bool → Piece
sign_piece negative = Word (cond negative (codes " -") (codes " +"))

-- a clock behind its label: UTC day, hour and minute, and the local offset in half hours with its sign
abbrev pub clock_line : Piece → Option Clock → List Piece
clock_line label (Some clock) =
    label ∷ Number clock.day.0 ∷ space ∷ Two clock.hour ∷ colon ∷ Two clock.minute
    ∷ sign_piece clock.negative ∷ Number clock.half ∷ []
clock_line label None = label ∷ none ∷ []

-- a local date and time behind its label, and the end of the line
abbrev pub local_line : Piece → Result DateTime OutOfRange → List Piece
local_line label (Ok at) =
    label ∷ Number at.year ∷ hyphen ∷ Two at.month ∷ hyphen ∷ Two at.day ∷ space
    ∷ Two at.hour ∷ colon ∷ Two at.minute ∷ end ∷ []
local_line label (Err e) = label ∷ none ∷ end ∷ []

-- what a good group carries; `held` is the clock that its words make, if they do
abbrev pub content_line : Content → Option Clock → List Piece
content_line (Name0A switches address af pair) held = name_line address pair ++ codes_line (first_of af) (second_of af)
content_line (Name0B switches address pair) held = name_line address pair
content_line (Text2A flag address first second) held = part_line address flag first ++ pair_line second ++ quote ∷ []
content_line (Text2B flag address pair) held = part_line address flag pair ++ quote ∷ []
content_line Clock4A held = clock_line (Word (codes " clock ")) held
content_line Other held = []

-- how its line ends: a clock with its local date and time
abbrev pub closing_line : Content → Option Clock → List Piece
closing_line (Name0A switches address af pair) held = end ∷ []
closing_line (Name0B switches address pair) held = end ∷ []
closing_line (Text2A flag address first second) held = end ∷ []
closing_line (Text2B flag address pair) held = end ∷ []
closing_line Clock4A held = local_line (Word (codes " local ")) (local_date_of held)
closing_line Other held = end ∷ []

-- ---- the whole line: for groups with a bad block nothing is told but number, type and words

abbrev pub content_in : Group → Content
content_in group = content_of (word_of group 1) (word_of group 2) (word_of group 3)

abbrev pub clock_of : Group → Option Clock
clock_of group = read_of (word_of group 1) (word_of group 2) (word_of group 3)

abbrev pub carried_by : Group → List Piece
carried_by group = cond (is_all_good_of group) (content_line (content_in group) (clock_of group)) []

abbrev pub closing_by : Group → List Piece
closing_by group = cond (is_all_good_of group) (closing_line (content_in group) (clock_of group)) (end ∷ [])

unfoldable pub group_text : ℕ → Group → List ℕ
group_text number group = line_text (head_line number group) ++ line_text (carried_by group) ++ line_text (closing_by group)
