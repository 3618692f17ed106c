-- AF codes and their frequencies: which code stands for which kHz, both ways, and what is refused.
use Rattle.std.specs.Prelude.{ℕ, ◌+◌, ◌-◌, ◌*◌, ◌/◌, ◌%◌, Bool, cond, ◌||◌, ltb, Result, Ok, Err}
use Rattle.frequencies.specs.declared.NoFrequency.{NoFrequency}
use Rattle.frequencies.specs.declared.NoCode.{NoCode}

-- number 11: frequency asked for a code outside 1 to 204, or code for kHz that none has
abbrev pub refused : ℕ
refused = 11

-- the codes of frequencies are 1 to 204
abbrev pub first_code : ℕ
first_code = 1

abbrev pub last_code : ℕ
last_code = 204

-- 87,500 kHz, from which the codes count
abbrev pub base : ℕ
base = 87500

-- 100 kHz from a code to the next
abbrev pub step : ℕ
step = 100

-- frequency 87,500 + 100 × code kHz
abbrev pub khz_of : ℕ → ℕ
khz_of code = base + step * code

-- a code outside 1 to 204
abbrev pub no_frequency : ℕ → Bool
no_frequency code = ltb code first_code || ltb last_code code

-- the refusals of both, which say no more than their number
abbrev pub frequency_refusal : NoFrequency
frequency_refusal = record {}

abbrev pub code_refusal : NoCode
code_refusal = record {}

-- the frequency of a code, or refusal 11
unfoldable pub frequency_of : ℕ → Result ℕ NoFrequency
frequency_of code = cond (no_frequency code) (Err frequency_refusal) (Ok (khz_of code))

-- how many steps of 100 kHz a frequency lies above 87,500
abbrev pub steps_above : ℕ → ℕ
steps_above khz = (khz - base) / step

-- kHz below the first code's
abbrev pub below_codes : ℕ → Bool
below_codes khz = ltb khz (khz_of first_code)

-- kHz above the last code's
abbrev pub above_codes : ℕ → Bool
above_codes khz = ltb (khz_of last_code) khz

-- kHz between two codes'
abbrev pub between_codes : ℕ → Bool
between_codes khz = ltb 0 ((khz - base) % step)

-- kHz that no code has
abbrev pub no_code : ℕ → Bool
no_code khz = below_codes khz || above_codes khz || between_codes khz

-- the code of a frequency, or refusal 11
unfoldable pub code_of : ℕ → Result ℕ NoCode
code_of khz = cond (no_code khz) (Err code_refusal) (Ok (steps_above khz))

-- the paper's number of each answer
abbrev pub frequency_number : Result ℕ NoFrequency → ℕ
frequency_number (Ok k) = 0
frequency_number (Err e) = refused

abbrev pub code_number : Result ℕ NoCode → ℕ
code_number (Ok c) = 0
code_number (Err e) = refused

-- the value of each answer: the kHz, the code; 0 where refused
abbrev pub frequency_value : Result ℕ NoFrequency → ℕ
frequency_value (Ok k) = k
frequency_value (Err e) = 0

abbrev pub code_value : Result ℕ NoCode → ℕ
code_value (Ok c) = c
code_value (Err e) = 0
