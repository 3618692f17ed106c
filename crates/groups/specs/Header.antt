-- The header: what word 1 and word 2 of a group say, and the kind that each place of a group expects.
use Rattle.std.specs.Prelude.{ℕ, zero, suc, ◌/◌, ◌%◌, ◌^◌, cond, eqb}
use Rattle.blocks.specs.declared.Kind.{Kind}
use Rattle.blocks.specs.declared.Kind.TheVariants.{A, B, C, CPrime, D}

-- ---- word 1 is PI; word 2 from the top: type (4 bits), version (1), TP (1), PTY (5), five bits by type

abbrev pub type_of : ℕ → ℕ
type_of word2 = word2 / 2 ^ 12

abbrev pub version_of : ℕ → ℕ
version_of word2 = word2 / 2 ^ 11 % 2

abbrev pub tp_of : ℕ → ℕ
tp_of word2 = word2 / 2 ^ 10 % 2

abbrev pub pty_of : ℕ → ℕ
pty_of word2 = word2 / 2 ^ 5 % 2 ^ 5

abbrev pub low_of : ℕ → ℕ
low_of word2 = word2 % 2 ^ 5

-- ---- kinds in order: A, B, then C or C', then D

-- version 0 has C third, version 1 has C' third
unfoldable pub third_kind : ℕ → Kind
third_kind word2 = cond (eqb (version_of word2) 0) C CPrime

-- the kind that place i expects, the third by word 2; a place past the fourth expects what the fourth does
abbrev pub expected_of : ℕ → ℕ → Kind
expected_of zero word2 = A
expected_of (suc zero) word2 = B
expected_of (suc (suc zero)) word2 = third_kind word2
expected_of (suc (suc (suc i))) word2 = D
