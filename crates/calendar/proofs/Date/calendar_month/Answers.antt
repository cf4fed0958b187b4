-- `calendar::Date::calendar_month` meets its contract.
use mathlib.Core.Path.{refl}
use Rattle.calendar.specs.Dates.{month_number}
use Rattle.calendar.proofs.Date.calendar_month.Goals as goal

pub returns : goal.returns
unfolding month_number
returns c = refl
