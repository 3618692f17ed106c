-- The record, said of all groups that came, in the order in which they came.
use Rattle.std.specs.Prelude.{ℕ, zero, suc, ◌/◌, ◌%◌, Bool, true, false, cond, ◌&&◌, ◌||◌, List, [], ◌∷◌, map, eqb, Option, Some, None}
use Rattle.frequencies.specs.AfHistory.{af_after}
use Rattle.clock.specs.declared.Clock.{Clock}
use Rattle.clock.specs.Range.{in_range}
use Rattle.clock.specs.Words.{clock_in}
use Rattle.groups.specs.declared.Group.{Group}
use Rattle.groups.specs.declared.fields.Content.{Content}
use Rattle.groups.specs.declared.fields.Content.TheVariants.{Name0A, Name0B, Text2A, Text2B, Clock4A, Other}
use Rattle.groups.specs.Group.{word_of, counts_of}
use Rattle.groups.specs.Content.{header_of, content_of, first_of, second_of}
use Rattle.station.specs.declared.Text.{Text}
use Rattle.station.specs.declared.Record.{Record}
use Rattle.station.specs.Record.{Name, space, name_size, name_pairs, text_size, text_pairs}

-- ---- some of the groups that came, and what they say

-- those that pass a test
unfoldable pub those : (Group → Bool) → List Group → List Group
those test [] = []
those test (g ∷ gs) = cond (test g) (g ∷ those test gs) (those test gs)

-- whether one of them passes a test
unfoldable pub some : (Group → Bool) → List Group → Bool
some test [] = false
some test (g ∷ gs) = test g || some test gs

-- whether each of them passes it
unfoldable pub each : (Group → Bool) → List Group → Bool
each test [] = true
each test (g ∷ gs) = test g && each test gs

-- what the last of them says; `none` where there is none
unfoldable pub latest : {A : Type 0} → A → (Group → A) → List Group → A
latest none says [] = none
latest none says (g ∷ gs) = latest (says g) says gs

-- those since a number last changed: the longest stretch up to the last in which all have the same
unfoldable pub since_change : (Group → ℕ) → List Group → List Group
since_change number [] = []
since_change number (g ∷ gs) =
    cond (each (λ h. eqb (number h) (number g)) gs) (g ∷ gs) (since_change number gs)

-- what is said of 0, 1 and so on, n times
unfoldable pub listed : {A : Type 0} → ℕ → (ℕ → A) → List A
listed zero says = []
listed (suc n) says = says 0 ∷ listed n (λ i. says (suc i))

-- ---- what a group says

-- PI
abbrev pub pi_in : Group → ℕ
pi_in g = word_of g 0

-- PTY and TP
abbrev pub pty_in : Group → ℕ
pty_in g = (header_of (word_of g 0) (word_of g 1)).pty

abbrev pub tp_in : Group → Bool
tp_in g = (header_of (word_of g 0) (word_of g 1)).tp

-- what it carries by its type
abbrev pub carried_in : Group → Content
carried_in g = content_of (word_of g 1) (word_of g 2) (word_of g 3)

-- character i of the two in a word that has characters 2p and 2p+1
abbrev pub character_of : ℕ → ℕ → ℕ
character_of i word = cond (eqb (i % 2) 0) (first_of word) (second_of word)

-- 0A and 0B carry the name's pair a
unfoldable pub has_name : ℕ → Content → Bool
has_name p (Name0A switches a af pair) = eqb p a
has_name p (Name0B switches a pair) = eqb p a
has_name p (Text2A flag a first second) = false
has_name p (Text2B flag a pair) = false
has_name p Clock4A = false
has_name p Other = false

-- .. in this word; 0 of others, which is not asked
unfoldable pub name_word : Content → ℕ
name_word (Name0A switches a af pair) = pair
name_word (Name0B switches a pair) = pair
name_word (Text2A flag a first second) = 0
name_word (Text2B flag a pair) = 0
name_word Clock4A = 0
name_word Other = 0

-- 2A and 2B are the text groups
unfoldable pub is_text : Content → Bool
is_text (Name0A switches a af pair) = false
is_text (Name0B switches a pair) = false
is_text (Text2A flag a first second) = true
is_text (Text2B flag a pair) = true
is_text Clock4A = false
is_text Other = false

-- .. with this flag; 0 of others, which is not asked
unfoldable pub flag_of : Content → Bool
flag_of (Name0A switches a af pair) = false
flag_of (Name0B switches a pair) = false
flag_of (Text2A flag a first second) = flag
flag_of (Text2B flag a pair) = flag
flag_of Clock4A = false
flag_of Other = false

-- 2A carries the text's pairs 2a and 2a+1, characters 4a to 4a+3; 2B pair a, characters 2a and 2a+1
unfoldable pub has_text : ℕ → Content → Bool
has_text p (Name0A switches a af pair) = false
has_text p (Name0B switches a pair) = false
has_text p (Text2A flag a first second) = eqb (p / 2) a
has_text p (Text2B flag a pair) = eqb p a
has_text p Clock4A = false
has_text p Other = false

-- .. in this word; 0 of others, which is not asked
unfoldable pub text_word : ℕ → Content → ℕ
text_word p (Name0A switches a af pair) = 0
text_word p (Name0B switches a pair) = 0
text_word p (Text2A flag a first second) = cond (eqb (p % 2) 0) first second
text_word p (Text2B flag a pair) = pair
text_word p Clock4A = 0
text_word p Other = 0

-- 0A carries a word of AF codes
unfoldable pub has_af : Content → Bool
has_af (Name0A switches a af pair) = true
has_af (Name0B switches a pair) = false
has_af (Text2A flag a first second) = false
has_af (Text2B flag a pair) = false
has_af Clock4A = false
has_af Other = false

-- .. this one; 0 of others, which is not asked
unfoldable pub af_word_of : Content → ℕ
af_word_of (Name0A switches a af pair) = af
af_word_of (Name0B switches a pair) = 0
af_word_of (Text2A flag a first second) = 0
af_word_of (Text2B flag a pair) = 0
af_word_of Clock4A = 0
af_word_of Other = 0

-- 4A carries a clock
unfoldable pub is_clock : Content → Bool
is_clock (Name0A switches a af pair) = false
is_clock (Name0B switches a pair) = false
is_clock (Text2A flag a first second) = false
is_clock (Text2B flag a pair) = false
is_clock Clock4A = true
is_clock Other = false

-- .. in these words
abbrev pub clock_of : Group → Clock
clock_of g = clock_in (word_of g 1) (word_of g 2) (word_of g 3)

-- ---- what a stretch of groups says, in which all have the same PI

-- name: each character is that of the last group that carried it, or a space; a pair is seen if a group carried it
abbrev pub name_character : List Group → ℕ → ℕ
name_character gs i =
    latest space (λ g. character_of i (name_word (carried_in g))) (those (λ g. has_name (i / 2) (carried_in g)) gs)

abbrev pub name_seen : List Group → ℕ → Bool
name_seen gs p = some (λ g. has_name p (carried_in g)) gs

unfoldable pub name_over : List Group → Name
name_over gs = record { characters = listed name_size (name_character gs); seen = listed name_pairs (name_seen gs) }

-- the text groups, and those of them since the flag last changed
abbrev pub text_groups : List Group → List Group
text_groups gs = those (λ g. is_text (carried_in g)) gs

abbrev pub flag_number : Group → ℕ
flag_number g = cond (flag_of (carried_in g)) 1 0

abbrev pub since_flag : List Group → List Group
since_flag gs = since_change flag_number (text_groups gs)

-- text: the same, of the text groups since the flag last changed; the flag is that of the last text group, or none
abbrev pub text_character : List Group → ℕ → ℕ
text_character gs i =
    latest space (λ g. character_of i (text_word (i / 2) (carried_in g))) (those (λ g. has_text (i / 2) (carried_in g)) gs)

abbrev pub text_seen : List Group → ℕ → Bool
text_seen gs p = some (λ g. has_text p (carried_in g)) gs

abbrev pub last_flag : List Group → Option Bool
last_flag gs = latest None (λ g. Some (flag_of (carried_in g))) gs

unfoldable pub text_over : List Group → Text
text_over gs =
    record {
      pairs =
          record {
            characters = listed text_size (text_character (since_flag gs));
            seen = listed text_pairs (text_seen (since_flag gs));
          };
      flag = last_flag (text_groups gs);
    }

-- AF: the words of the 0A groups
unfoldable pub af_words : List Group → List ℕ
af_words gs = map (λ g. af_word_of (carried_in g)) (those (λ g. has_af (carried_in g)) gs)

-- clock: that of the last 4A with a clock in range, or none
unfoldable pub clock_over : List Group → Option Clock
clock_over gs = latest None (λ g. Some (clock_of g)) (those (λ g. is_clock (carried_in g) && in_range (clock_of g)) gs)

-- the record of a PI and a stretch; PTY and TP are those of its last group
unfoldable pub record_over : Option ℕ → List Group → Record
record_over pi gs =
    record {
      pi = pi;
      pty = latest 0 pty_in gs;
      tp = latest false tp_in gs;
      name = name_over gs;
      text = text_over gs;
      af = af_after (af_words gs);
      clock = clock_over gs;
    }

-- ---- the record

-- only groups with all four blocks good count
abbrev pub counting : List Group → List Group
counting gs = those counts_of gs

-- PI is that of the last group that counts, or none
abbrev pub last_pi : List Group → Option ℕ
last_pi gs = latest None (λ g. Some (pi_in g)) gs

-- everything else is said of the groups that count since the PI last changed
unfoldable pub record_after : List Group → Record
record_after gs = record_over (last_pi (counting gs)) (since_change pi_in (counting gs))
