-- `schedule::dates::Bond::dates_after` meets its contract: dates of later months, and the one of the date's own month where it is later.
use native.Mathlib.Omega.{arith}
use mathlib.Core.Path.{refl, ◌∙◌}
use Rattle.calendar.proofs.DayNumbers.{calendar_in}
use Rattle.schedule.proofs.Bonds.{dated_of}
use Rattle.schedule.proofs.Counting.{months_between, last_due, last_past}
use Rattle.schedule.proofs.dates.Bond.dates_after.Goals as goal

pub calendar_month-last-requires : goal.calendar_month-last-requires
calendar_month-last-requires c = (calendar_in c.args.self.maturity c.args.self.matures).0

pub calendar_month-first-requires : goal.calendar_month-first-requires
calendar_month-first-requires c = (calendar_in c.args.self.date c.args.self.known).0

pub overflow_sub-last : goal.overflow_sub-last
overflow_sub-last c = months_between _ _ (dated_of c.args.self) _ _ c.calendar_month-last.ensures c.calendar_month-first.ensures

pub day_in-requires : goal.day_in-requires
day_in-requires c = omega (arith, c.from.ensures, (calendar_in c.args.self.maturity c.args.self.matures).1.0)

pub returns-then-day_number-day_in : goal.returns-then-day_number-day_in
returns-then-day_number-day_in c =
    last_due _ _ (dated_of c.args.self) _ _ c.calendar_month-last.ensures c.calendar_month-first.ensures _ _
    c.steps_back-whole.ensures c.months_apart.ensures.0 _ _
    c.day_number.ensures (c.day_in.ensures ∙ rw (c.back-month.ensures, c.from.ensures) refl) (omega (arith, c.if-day_number-day_in.true))

pub returns-else-day_number-day_in : goal.returns-else-day_number-day_in
returns-else-day_number-day_in c =
    last_past _ _ (dated_of c.args.self) _ _ c.calendar_month-last.ensures c.calendar_month-first.ensures _ _
    c.steps_back-whole.ensures c.months_apart.ensures.0 _ _
    c.day_number.ensures (c.day_in.ensures ∙ rw (c.back-month.ensures, c.from.ensures) refl) (omega (arith, c.if-day_number-day_in.false))
