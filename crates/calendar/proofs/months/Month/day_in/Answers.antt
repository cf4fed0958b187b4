-- `calendar::months::Month::day_in` meets its contract.
use native.Mathlib.Omega.{arith}
use Rattle.calendar.proofs.FirstDays.{day_of, has_days}
use Rattle.calendar.proofs.months.Month.day_in.Goals as goal

pub overflow_sub-result : goal.overflow_sub-result
overflow_sub-result c = omega (arith, c.requires, c.min.ensures, has_days _ _ c.days.ensures)

pub overflow_cast-result : goal.overflow_cast-result
overflow_cast-result c = record { fits = omega (arith, (day_of _ c.args.day _ _ _ c.args.self.within c.first_day.ensures c.days.ensures c.min.ensures).1) }

pub overflow_add-result : goal.overflow_add-result
overflow_add-result c = record { fits = omega (arith, (day_of _ c.args.day _ _ _ c.args.self.within c.first_day.ensures c.days.ensures c.min.ensures).1) }

pub returns : goal.returns
returns c = (day_of _ c.args.day _ _ _ c.args.self.within c.first_day.ensures c.days.ensures c.min.ensures).0
