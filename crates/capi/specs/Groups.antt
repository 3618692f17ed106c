-- Groups: a word with its place of the mask, and the switches, each as one number.
use Rattle.std.specs.Prelude.{ℕ, ◌+◌, ◌*◌, ◌^◌, Bool, cond, Option, Some, None}
use Rattle.groups.specs.declared.Group.{Group}
use Rattle.groups.specs.declared.fields.Switches.{Switches}
use Rattle.groups.specs.Group.{word_of, good_of}

-- a word: 1 above it where it was good
unfoldable pub word_code : Group → ℕ → ℕ
word_code group i = cond (good_of group i) (2 ^ 16 + word_of group i) (word_of group i)

-- a yes or no
abbrev pub bit_of : Bool → ℕ
bit_of on = cond on 1 0

-- TA, M/S and DI as bits 2, 1 and 0 under bit 3; 0 where none are carried
abbrev pub carried_code : Option Switches → ℕ
carried_code (Some switches) = 8 + 4 * bit_of switches.ta + 2 * bit_of switches.ms + bit_of switches.di
carried_code None = 0
