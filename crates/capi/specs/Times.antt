-- The clock and the local date: each answer as one number, field above field.
use Rattle.std.specs.Prelude.{ℕ, ◌+◌, ◌*◌, ◌^◌, Bool, cond, List, get_or, Option, Some, None, Result, Ok, Err}
use Rattle.clock.specs.declared.Clock.{Clock}
use Rattle.clock.specs.declared.DateTime.{DateTime}
use Rattle.clock.specs.declared.OutOfRange.{OutOfRange}

-- the clock of these fields
abbrev pub clock_of : ℕ → ℕ → ℕ → Bool → ℕ → Clock
clock_of day hour minute negative half =
    record { day = record { 0 = day }; hour = hour; minute = minute; negative = negative; half = half }

-- a clock that is held, or none
abbrev pub held_of : Bool → Clock → Option Clock
held_of held clock = cond held (Some clock) None

-- a clock: bit 57, then the day (32 bits), hour (8), minute (8), sign (1) and half hours (8); 0 for none
abbrev pub held_code : Option Clock → ℕ
held_code (Some clock) =
    2 ^ 57 + clock.day.0 * 2 ^ 25 + clock.hour * 2 ^ 17 + clock.minute * 2 ^ 9
    + cond clock.negative 1 0 * 2 ^ 8 + clock.half
held_code None = 0

-- four words, the first highest; 10 where it is refused
abbrev pub written_code : Result (List ℕ) OutOfRange → ℕ
written_code (Ok words) =
    get_or words 0 0 * 2 ^ 48 + get_or words 1 0 * 2 ^ 32 + get_or words 2 0 * 2 ^ 16 + get_or words 3 0
written_code (Err e) = 10

-- a date and time: bit 56, then year (16 bits), month, day, weekday, hour and minute (8 each); 10 where it is refused
abbrev pub local_code : Result DateTime OutOfRange → ℕ
local_code (Ok at) =
    2 ^ 56 + at.year * 2 ^ 40 + at.month * 2 ^ 32 + at.day * 2 ^ 24 + at.weekday * 2 ^ 16 + at.hour * 2 ^ 8
    + at.minute
local_code (Err e) = 10
