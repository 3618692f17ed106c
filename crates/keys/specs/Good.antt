-- A good key: PTY at most 31; flag bits 2-7 zero; name bytes 32 or more; text bytes 32 or more if text is wanted,
-- else all zero; last four zero. First the rule in these words, then the test of it.
use Rattle.std.specs.Prelude.{ℕ, zero, suc, ◌+◌, ◌≤◌, ◌<◌, ◌≡◌, List, Bool, true, false, cond, ◌&&◌, get_or, eqb, ltb, leb}
use Rattle.keys.specs.Fields.{name_place, text_place, last_place, name_byte, text_byte, last_byte}
use Rattle.keys.specs.Fields.{pty_of, flags_of, wanted_of}
use Rattle.keys.specs.Wanted.{text_size}

-- the highest PTY
abbrev pub most_pty : ℕ
most_pty = 31

-- flags with bits 2-7 zero are below it
abbrev pub flags_limit : ℕ
flags_limit = 4

-- the lowest byte that is a character
abbrev pub space : ℕ
space = 32

-- bytes of a name
abbrev pub name_size : ℕ
name_size = 8

-- bytes at the end of a key that are zero
abbrev pub last_size : ℕ
last_size = 4

-- a good key
pub record GoodKey (k : List ℕ) : Type 0 where
  pub pty_most : pty_of k ≤ most_pty
  pub flags_zero : flags_of k < flags_limit
  pub name_shown : (i : ℕ) → i < name_size → space ≤ name_byte k i
  pub text_shown : wanted_of k ≡ true → (i : ℕ) → i < text_size → space ≤ text_byte k i
  pub text_zero : wanted_of k ≡ false → (i : ℕ) → i < text_size → text_byte k i ≡ 0
  pub last_zero : (i : ℕ) → i < last_size → last_byte k i ≡ 0

-- a byte where a character is shown is 32 or more, any other is zero
unfoldable pub byte_good : Bool → ℕ → Bool
byte_good shown x = cond shown (leb space x) (eqb x 0)

-- the n bytes from a place on are all such
unfoldable pub all_good : Bool → List ℕ → ℕ → ℕ → Bool
all_good shown k at zero = true
all_good shown k at (suc n) = all_good shown k at n && byte_good shown (get_or k (at + n) 0)

-- the test of a good key
unfoldable pub key_good : List ℕ → Bool
key_good k =
    leb (pty_of k) most_pty
    && (ltb (flags_of k) flags_limit
    && (all_good true k name_place name_size
    && (all_good (wanted_of k) k text_place text_size && all_good false k last_place last_size)))
