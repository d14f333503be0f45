-- The text of a FILETIME ([MS-DTYP] 2.3.3): of a number of steps of 100 nanoseconds since 1 January 1601, in UTC.
use Rattle.std.specs.Prelude.{ℕ, zero, suc, ◌+◌, ◌/◌, ◌%◌, nat_le, List, [], ◌∷◌, ◌++◌, codes, Option, Some, None, if◌then◌else◌}
use Rattle.pst_time.specs.Calendar.{Part, year_from, month_from}

-- the last so many decimal digits of a number
unfoldable pub digits : ℕ → ℕ → List ℕ
digits zero n = []
digits (suc more) n = digits more (n / 10) ++ (48 + n % 10) ∷ []

-- the steps in a second, and the seconds in a day
abbrev pub second_steps : ℕ
second_steps = 10_000_000

abbrev pub day_seconds : ℕ
day_seconds = 86_400

-- the year in which a day lies that is counted from 1 January 1601: there are no more years than days
abbrev pub year_of_day : ℕ → Part
year_of_day day = year_from day 1601 day

abbrev pub year_of : ℕ → Part
year_of time = year_of_day (time / second_steps / day_seconds)

-- a date, of a year, and a month and how many of its days are over
abbrev pub day_text : ℕ → Part → List ℕ
day_text year month = digits 4 year ++ codes "-" ++ digits 2 month.number ++ codes "-" ++ digits 2 (month.rest + 1)

-- of a year, and how many of its days are over
unfoldable pub date_text : Part → List ℕ
date_text year = day_text year.number (month_from 12 year.number 1 year.rest)

-- a time of day, of its seconds, and the steps behind the last
unfoldable pub clock_text : ℕ → ℕ → List ℕ
clock_text second steps =
    digits 2 (second / 3600) ++ codes ":" ++ digits 2 (second / 60 % 60) ++ codes ":" ++ digits 2 (second % 60) ++ codes "." ++ digits 7 steps

abbrev pub moment_text : Part → ℕ → List ℕ
moment_text year time = date_text year ++ codes "T" ++ clock_text (time / second_steps % day_seconds) (time % second_steps) ++ codes "Z"

-- as 2019-04-17T18:40:00.0000000Z; None where it lies behind the year 9999
unfoldable pub time_text : ℕ → Option (List ℕ)
time_text time = if nat_le (year_of time).number 9999 then Some (moment_text (year_of time) time) else None
