-- The days of the Gregorian calendar, counted from a first of January on.
use Rattle.std.specs.Prelude.{ℕ, zero, suc, ◌+◌, ◌-◌, ◌%◌, nat_lt, Bool, not, ◌&&◌, ◌||◌, ◌==◌, if◌then◌else◌}

-- every fourth year, but of those that end a century only every fourth
abbrev pub is_leap : ℕ → Bool
is_leap year = (year % 4 == 0) && (not (year % 100 == 0) || (year % 400 == 0))

abbrev pub days_in_year : ℕ → ℕ
days_in_year year = if is_leap year then 366 else 365

-- thirty days have September, April, June and November
abbrev pub days_in_month : ℕ → ℕ → ℕ
days_in_month year month =
    if month == 2 then (if is_leap year then 29 else 28)
    else (if (month == 4) || (month == 6) || (month == 9) || (month == 11) then 30 else 31)

-- a unit of time, by its number, and how much of what was counted lies behind its start
pub record Part : Type 0 where
  pub number : ℕ
  pub rest : ℕ

abbrev pub part : ℕ → ℕ → Part
part number rest = record { number = number; rest = rest }

-- The year in which a day lies, and its place there, from 0: days are counted from the start of a year, and whole years are taken
-- away, at most so many.
unfoldable pub year_from : ℕ → ℕ → ℕ → Part
year_from zero year day = part year day
year_from (suc more) year day =
    if nat_lt day (days_in_year year) then part year day else year_from more (year + 1) (day - days_in_year year)

-- the month of a year in which a day lies, and its place there, from 0: in the same way, from a month on
unfoldable pub month_from : ℕ → ℕ → ℕ → ℕ → Part
month_from zero year month day = part month day
month_from (suc more) year month day =
    if nat_lt day (days_in_month year month) then part month day
    else month_from more year (month + 1) (day - days_in_month year month)
