use Rattle.std.proofs.Common.{◌≡◌, ◌≤◌, ◌-◌}
use Rattle.pst_time.specs.Calendar.{month_from}
use Rattle.pst_time.proofs.calendar.month_of_day.Given as goal

-- the months that are left end where all of them do
abbrev pub invariant-loop-number : goal.invariant-loop-number
invariant-loop-number l = record {
  first : 1 ≤ l.number;
  last : l.number ≤ 13;
  less : l.rest ≤ l.day;
  left : month_from (13 - l.number) l.year l.number l.rest ≡ month_from 12 l.year 1 l.day;
}

abbrev pub decreases-loop-number : goal.decreases-loop-number
decreases-loop-number l = 13 - l.number
