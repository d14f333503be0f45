use Rattle.std.proofs.Common.{◌-◌, ◌*◌, ◌/◌, ◌%◌, arith}
use Rattle.pst_time.proofs.CalendarLemmas.{year_at}
use Rattle.pst_time.proofs.calendar.year_of_day.Goals as goal

pub returns-clause-year : goal.returns-clause-year
returns-clause-year c =
    let day = c.args.day in
    let century = c.min-century.result in
    let rest = day % 146097 - 36524 * century in
    let last = c.min-last.result in
    year_at day (day / 146097) century (rest / 1461) last (rest % 1461 - 365 * last)
    (omega arith) (omega arith) (omega arith) (omega arith) (omega arith) (omega arith) (omega arith)
