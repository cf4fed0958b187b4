-- `calendar::table::first_days` meets its contract. The test of the table's rule is computed here, over all of it: its 1,200 entries are
-- those of `walk`, one after the other.
use Rattle.calendar.specs.Months.{days_in, leap}
use Rattle.calendar.proofs.FirstDays.{rule}
use Rattle.calendar.proofs.table.first_days.Goals as goal

pub returns : goal.returns
unfolding days_in leap
returns c = rule 1200
