-- `calendar::Date::in_calendar` meets its contract.
use mathlib.Core.Path.{sym, ◌∙◌}
use Rattle.calendar.proofs.DayNumbers.{calendar_months, calendar_not}
use Rattle.calendar.proofs.Date.in_calendar.Goals as goal

pub returns-then-in_months : goal.returns-then-in_months
returns-then-in_months c = c.has_day.ensures ∙ rw (c.calendar_month.ensures, c.from.ensures) (sym (calendar_months _ (sym c.in_months.ensures ∙ c.if-in_months.true)))

pub returns-else-in_months : goal.returns-else-in_months
returns-else-in_months c = c.if-in_months.false ∙ sym (calendar_not _ (sym c.in_months.ensures ∙ c.if-in_months.false))
