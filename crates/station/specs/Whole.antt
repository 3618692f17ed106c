-- Groups that all say the same of a station: the same PI, PTY and TP, and pairs of one name and of one text.
use Rattle.std.specs.Prelude.{ℕ, ◌/◌, ◌<◌, ◌≡◌, Bool, true, List, [], ◌∷◌, get_or}
use Rattle.groups.specs.declared.Group.{Group}
use Rattle.groups.specs.Group.{counts_of}
use Rattle.station.specs.Record.{name_size, name_pairs, text_size, text_pairs}
use Rattle.station.specs.History.{some, pi_in, pty_in, tp_in, carried_in, character_of}
use Rattle.station.specs.History.{has_name, name_word, is_text, flag_of, has_text, text_word}

-- each of the groups has a property
abbrev pub Every : (Group → Type 0) → List Group → Type 0
Every P [] = Unit {0}
Every P (g ∷ gs) = P g × Every P gs

-- a group that counts, with this PI, PTY and TP
pub record SaysHeader (pi pty : ℕ) (tp : Bool) (g : Group) : Type 0 where
  pub counts : counts_of g ≡ true
  pub pi_is : pi_in g ≡ pi
  pub pty_is : pty_in g ≡ pty
  pub tp_is : tp_in g ≡ tp

-- what it carries of the name is of this name
abbrev pub SaysName : List ℕ → Group → Type 0
SaysName name g =
    (i : ℕ) → i < name_size → has_name (i / 2) (carried_in g) ≡ true →
    character_of i (name_word (carried_in g)) ≡ get_or name i 0

-- each pair of the name came
abbrev pub NameCame : List Group → Type 0
NameCame gs = (p : ℕ) → p < name_pairs → some (λ g. has_name p (carried_in g)) gs ≡ true

-- where it is a text group, it has this flag, and what it carries of the text is of this text
pub record SaysText (flag : Bool) (text : List ℕ) (g : Group) : Type 0 where
  pub flag_is : is_text (carried_in g) ≡ true → flag_of (carried_in g) ≡ flag
  pub text_is :
      (i : ℕ) → i < text_size → has_text (i / 2) (carried_in g) ≡ true →
      character_of i (text_word (i / 2) (carried_in g)) ≡ get_or text i 0

-- each pair of the text came
abbrev pub TextCame : List Group → Type 0
TextCame gs = (p : ℕ) → p < text_pairs → some (λ g. has_text p (carried_in g)) gs ≡ true
