-- `schedule::dates::Bond::new` meets its contract: the refusals in their order, and what holds where none is due.
use mathlib.Core.Path.{sym}
use Rattle.schedule.proofs.CouponDates.{rate_most}
use Rattle.schedule.proofs.Drawing.{dates_passed}
use Rattle.schedule.proofs.dates.Bond.new.Goals as goal

pub invariant_of-result : goal.invariant_of-result
invariant_of-result c =
    let dates = dates_passed c.args.date c.args.terms.maturity (sym c.in_ok-check_dates.ensures) in
    record { rated = rate_most c.args.terms c.in_ok-frequency.ensures.0; matures = dates.1; known = dates.0; before = dates.2 }
