-- How much room is always enough for what is told: no line is dropped for want of it.
use Rattle.std.specs.Prelude.{ℕ}

-- for any line of pieces: sixteen of at most 20 characters
abbrev pub line_room : ℕ
line_room = 320

-- for the line of a group: three lines of pieces, one behind the other
abbrev pub group_room : ℕ
group_room = 1024

-- for all that is held of a station
abbrev pub station_room : ℕ
station_room = 7919
