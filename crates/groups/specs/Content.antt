-- What a group carries by its type: 0A and 0B, 2A, 2B, 4A, or another.
use Rattle.std.specs.Prelude.{ℕ, ◌/◌, ◌%◌, ◌^◌, Bool, cond, eqb, Option, Some, None}
use Rattle.groups.specs.Header.{type_of, version_of, pty_of, low_of}
use Rattle.groups.specs.declared.fields.Header.{Header}
use Rattle.groups.specs.declared.fields.Switches.{Switches}
use Rattle.groups.specs.declared.fields.Content.{Content}
use Rattle.groups.specs.declared.fields.Content.TheVariants.{Name0A, Name0B, Text2A, Text2B, Clock4A, Other}

-- bit i of a word
abbrev pub bit_of : ℕ → ℕ → Bool
bit_of word i = eqb (word / 2 ^ i % 2) 1

-- word 1 is PI; word 2 from the top: type, version, TP, PTY, five bits by type
unfoldable pub header_of : ℕ → ℕ → Header
header_of word1 word2 =
    record {
      pi = word1;
      number = type_of word2;
      version = version_of word2;
      tp = bit_of word2 10;
      pty =
          pty_of word2;
      low = low_of word2;
    }

-- 0A, 0B: bit 4 TA, bit 3 M/S, bit 2 DI
abbrev pub switches_of : ℕ → Switches
switches_of word2 = record { ta = bit_of word2 4; ms = bit_of word2 3; di = bit_of word2 2 }

-- 0A, 0B: bits 1-0 address a; 2A, 2B: bits 3-0
abbrev pub name_address : ℕ → ℕ
name_address word2 = word2 % 2 ^ 2

abbrev pub text_address : ℕ → ℕ
text_address word2 = word2 % 2 ^ 4

-- 2A, 2B: bit 4 text flag
abbrev pub text_flag : ℕ → Bool
text_flag word2 = bit_of word2 4

-- 0A, 0B: word 4 has name characters 2a and 2a+1; 0A: word 3 has two AF codes, high byte first.
-- 2A: words 3 and 4 have characters 4a to 4a+3. 2B: word 4 has characters 2a and 2a+1. 4A: a clock
unfoldable pub content_of : ℕ → ℕ → ℕ → Content
content_of word2 word3 word4 =
    cond (eqb (type_of word2) 0)
    (cond (eqb (version_of word2) 0)
    (Name0A (switches_of word2) (name_address word2) word3 word4)
    (Name0B (switches_of word2) (name_address word2) word4))
    (cond (eqb (type_of word2) 2)
    (cond (eqb (version_of word2) 0)
    (Text2A (text_flag word2) (text_address word2) word3 word4)
    (Text2B (text_flag word2) (text_address word2) word4))
    (cond (eqb (type_of word2) 4) (cond (eqb (version_of word2) 0) Clock4A Other) Other))

-- TA, M/S and DI can be read from 0A and 0B; other groups carry none
unfoldable pub carried_of : ℕ → Option Switches
carried_of word2 = cond (eqb (type_of word2) 0) (Some (switches_of word2)) None

-- the two characters, or codes, of a word: high byte first
abbrev pub first_of : ℕ → ℕ
first_of word = word / 2 ^ 8

abbrev pub second_of : ℕ → ℕ
second_of word = word % 2 ^ 8
