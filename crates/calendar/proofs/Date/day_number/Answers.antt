-- `calendar::Date::day_number` meets its contract.
use native.Mathlib.Omega.{arith}
use mathlib.Core.Path.{◌∙◌}
use Rattle.calendar.proofs.DayNumbers.{calendar_in, day_number_in}
use Rattle.calendar.proofs.Date.day_number.Goals as goal

pub calendar_month-requires : goal.calendar_month-requires
calendar_month-requires c = (calendar_in c.args.self c.requires).0

pub day_in-requires : goal.day_in-requires
day_in-requires c = omega (arith, c.from.ensures, (calendar_in c.args.self c.requires).1.0)

pub returns : goal.returns
returns c = c.day_in.ensures ∙ rw (c.calendar_month.ensures, c.from.ensures) (day_number_in c.args.self c.requires)
