-- The fields of a key of 80 bytes: bytes 0-1 PI, high first; 2 PTY; 3 flags; 4-11 name; 12-75 text; 76-79 zero.
use Rattle.std.specs.Prelude.{ℕ, ◌+◌, ◌*◌, ◌/◌, ◌%◌, List, Bool, cond, get_or, eqb, leb}

-- the places of the fields
abbrev pub pi_place : ℕ
pi_place = 0

abbrev pub pty_place : ℕ
pty_place = 2

abbrev pub flags_place : ℕ
flags_place = 3

abbrev pub name_place : ℕ
name_place = 4

abbrev pub text_place : ℕ
text_place = 12

abbrev pub last_place : ℕ
last_place = 76

-- the pairs of characters of a name, and of a text
abbrev pub name_pairs : ℕ
name_pairs = 4

abbrev pub text_pairs : ℕ
text_pairs = 32

-- the flags
abbrev pub flags_of : List ℕ → ℕ
flags_of k = get_or k flags_place 0

-- character i of the name
abbrev pub name_byte : List ℕ → ℕ → ℕ
name_byte k i = get_or k (name_place + i) 0

-- character i of the text
abbrev pub text_byte : List ℕ → ℕ → ℕ
text_byte k i = get_or k (text_place + i) 0

-- byte i of the last four
abbrev pub last_byte : List ℕ → ℕ → ℕ
last_byte k i = get_or k (last_place + i) 0

-- two bytes as a word, high first
unfoldable pub pair_of : ℕ → ℕ → ℕ
pair_of high low = high * 256 + low

-- PI
unfoldable pub pi_of : List ℕ → ℕ
pi_of k = pair_of (get_or k pi_place 0) (get_or k (pi_place + 1) 0)

-- PTY
unfoldable pub pty_of : List ℕ → ℕ
pty_of k = get_or k pty_place 0

-- flag bit 0: TP
unfoldable pub tp_of : List ℕ → Bool
tp_of k = eqb (flags_of k % 2) 1

-- flag bit 1: text wanted
unfoldable pub wanted_of : List ℕ → Bool
wanted_of k = eqb (flags_of k / 2 % 2) 1

-- name characters 2a and 2a + 1; 0 where the name has no pair a
unfoldable pub name_pair_of : List ℕ → ℕ → ℕ
name_pair_of k a = cond (leb name_pairs a) 0 (pair_of (name_byte k (2 * a)) (name_byte k (2 * a + 1)))

-- text characters 2a and 2a + 1; 0 where the text has no pair a
unfoldable pub text_pair_of : List ℕ → ℕ → ℕ
text_pair_of k a = cond (leb text_pairs a) 0 (pair_of (text_byte k (2 * a)) (text_byte k (2 * a + 1)))
