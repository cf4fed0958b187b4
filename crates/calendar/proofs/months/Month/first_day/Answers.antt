-- `calendar::months::Month::first_day` meets its contract.
use Rattle.calendar.proofs.FirstDays.{month_entry}
use Rattle.calendar.proofs.months.Month.first_day.Goals as goal

pub returns : goal.returns
returns c = month_entry _ c.first_days.ensures c.args.self.number c.args.self.within
