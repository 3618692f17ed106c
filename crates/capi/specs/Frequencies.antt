-- AF: each answer as one number, and the words of a list in bytes.
use Rattle.std.specs.Prelude.{ℕ, zero, suc, ◌+◌, ◌-◌, ◌*◌, ◌/◌, ◌^◌, List, cond, eqb, length, get_or, Result, Ok, Err}
use Rattle.frequencies.specs.declared.NoFrequency.{NoFrequency}
use Rattle.frequencies.specs.declared.NoCode.{NoCode}
use Rattle.frequencies.specs.declared.AfList.{AfList}
use Rattle.frequencies.specs.AfList.{empty_of, taken_of, held_of, expected_of, at_of}

-- the kHz; 11 where it is refused
abbrev pub frequency_code : Result ℕ NoFrequency → ℕ
frequency_code (Ok khz) = khz
frequency_code (Err e) = 11

-- 256 more than the code; 11 where it is refused
abbrev pub code_code : Result ℕ NoCode → ℕ
code_code (Ok code) = 2 ^ 8 + code
code_code (Err e) = 11

-- a list by numbers: how many are expected, how many are held, then the frequencies
abbrev pub list_code : AfList → ℕ → ℕ
list_code list n = cond (eqb n 0) (expected_of list) (cond (eqb n 1) (held_of list) (at_of list (n - 2)))

-- word n of some bytes, from 0: two bytes each, high first
abbrev pub word_at : List ℕ → ℕ → ℕ
word_at s n = get_or s (2 * n) 0 * 256 + get_or s (2 * n + 1) 0

-- the list after the first n words
unfoldable pub list_after : List ℕ → ℕ → AfList
list_after s zero = empty_of
list_after s (suc n) = taken_of (list_after s n) (word_at s n)

-- the list after all of them; a last byte by itself is no word
unfoldable pub list_in : List ℕ → AfList
list_in s = list_after s (length s / 2)
