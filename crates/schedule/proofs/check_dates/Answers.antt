-- `schedule::check_dates` meets its contract.
use mathlib.Core.Bool.{◌&&◌}
use mathlib.Core.Path.{refl}
use borrow.Author.Tests.{lt-ltb, le-ltb}
use Rattle.calendar.specs.Dates.{in_calendar}
use Rattle.std.proofs.Common.{◌≡◌, true, false}
use Rattle.schedule.specs.Check.{check_dates}
use Rattle.schedule.proofs.check_dates.Goals as goal

pub returns-then-not-in_calendar : goal.returns-then-not-in_calendar
unfolding check_dates
returns-then-not-in_calendar c =
    let outside : in_calendar c.args.evaluation && in_calendar c.args.maturity ≡ false =
    rw (← c.in_calendar.ensures, ← c.in_calendar-2.ensures) (c.if-not-in_calendar.true) in
    rw outside refl

pub returns-then-day_number : goal.returns-then-day_number
unfolding check_dates
returns-then-day_number c =
    let inside : in_calendar c.args.evaluation && in_calendar c.args.maturity ≡ true =
    rw (← c.in_calendar.ensures, ← c.in_calendar-2.ensures) (c.if-not-in_calendar.false) in
    rw inside
    (rw (← c.day_number.ensures, ← c.day_number-2.ensures) (rw (le-ltb _ _ c.if-day_number.true) refl))

pub returns : goal.returns
unfolding check_dates
returns c =
    let inside : in_calendar c.args.evaluation && in_calendar c.args.maturity ≡ true =
    rw (← c.in_calendar.ensures, ← c.in_calendar-2.ensures) (c.if-not-in_calendar.false) in
    rw inside
    (rw (← c.day_number.ensures, ← c.day_number-2.ensures) (rw (lt-ltb _ _ c.if-day_number.false) refl))
