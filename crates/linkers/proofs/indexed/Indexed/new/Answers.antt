-- `linkers::indexed::Indexed::new` meets its contract: refusals 28 and 29 in their order, and what holds where none is due.
use Rattle.calendar.proofs.DayNumbers.{calendar_in}
use Rattle.schedule.proofs.Bonds.{dated_of}
use Rattle.linkers.proofs.Months.{months_refused}
use Rattle.linkers.proofs.indexed.Indexed.new.Goals as goal

pub calendar_month-first-requires : goal.calendar_month-first-requires
calendar_month-first-requires c = (calendar_in c.args.issued.date c.args.issued.known).0

pub calendar_month-last-requires : goal.calendar_month-last-requires
calendar_month-last-requires c = (calendar_in c.args.issued.maturity c.args.issued.matures).0

pub returns-then-first-prices : goal.returns-then-first-prices
returns-then-first-prices c =
    rw (← c.in_ok-check_prices.ensures)
    (months_refused _ (dated_of c.args.issued) c.args.prices.now
    (rw (← c.calendar_month-first.ensures, ← c.calendar_month-last.ensures, ← c.saturating_sub.ensures) c.if-first-prices.true))
