-- `linkers::indexed::Indexed::issue_number` meets its contract.
use Prim.Native.Nat.{min}
use mathlib.Core.Path.{◌≡◌, refl, ◌∙◌}
use native.Mathlib.Omega.{arith}
use Rattle.calendar.specs.Months.{month_days}
use Rattle.calendar.specs.Dates.{month_number}
use Rattle.linkers.specs.Numbers.{index_number}
use Rattle.calendar.proofs.DayNumbers.{calendar_in}
use Rattle.schedule.proofs.Bonds.{dated_of}
use Rattle.schedule.proofs.CouponDates.{in_order}
use Rattle.linkers.proofs.indexed.Indexed.issue_number.Goals as goal

pub calendar_month-requires : goal.calendar_month-requires
calendar_month-requires c = (calendar_in c.args.self.now.issued.date c.args.self.now.issued.known).0

pub number-requires : goal.number-requires
number-requires c =
    let issued = c.args.self.now.issued in
    let held = (calendar_in issued.date issued.known).1 in
    rw (c.calendar_month.ensures, c.from.ensures) ((c.args.self.now.first, in_order _ _ (dated_of issued)), held.0)

pub returns : goal.returns
returns c =
    let issued = c.args.self.now.issued in
    let whole : min issued.date.day (month_days (month_number issued.date)) ≡ issued.date.day = omega (arith, (calendar_in issued.date issued.known).1.1) in
    let is : c.number.result ≡ index_number c.args.self.now.prices.now (month_number issued.date) issued.date.day =
    c.number.ensures.0 ∙ rw (c.calendar_month.ensures, c.from.ensures, whole) refl in
    (is, c.number.ensures.1)
