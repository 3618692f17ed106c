-- Which addresses a key wants: a name address (0 to 3), and a text address (4 to 19) if text is wanted.
use Rattle.std.specs.Prelude.{ℕ, List, Bool, cond, ltb}
use Rattle.keys.specs.Fields.{wanted_of}

-- addresses of a name
abbrev pub name_addresses : ℕ
name_addresses = 4

-- addresses of a name and a text
abbrev pub all_addresses : ℕ
all_addresses = 20

-- characters of a text
abbrev pub text_size : ℕ
text_size = 64

-- how many addresses are wanted: those below it
unfoldable pub addresses_of : List ℕ → ℕ
addresses_of k = cond (wanted_of k) all_addresses name_addresses

-- address a is wanted
unfoldable pub wanted_address : List ℕ → ℕ → Bool
wanted_address k a = ltb a (addresses_of k)

-- how many characters of the text count
unfoldable pub text_length_of : List ℕ → ℕ
text_length_of k = cond (wanted_of k) text_size 0
