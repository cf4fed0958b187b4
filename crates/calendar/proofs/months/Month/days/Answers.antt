-- `calendar::months::Month::days` meets its contract.
use native.Mathlib.Omega.{arith}
use mathlib.Core.Path.{sym, ap, ◌∙◌}
use Rattle.calendar.proofs.FirstDays.{next_no_earlier, month_between, last_month}
use Rattle.std.proofs.Common.{◌≡◌}
use Rattle.calendar.specs.Months.{month_days}
use Rattle.calendar.proofs.months.Month.days.Goals as goal

pub overflow_sub-first_day : goal.overflow_sub-first_day
overflow_sub-first_day c = next_no_earlier _ _ _ c.first_day.ensures c.first_day-then-self-lt1199.ensures

pub returns-then-self-lt1199 : goal.returns-then-self-lt1199
returns-then-self-lt1199 c = c.from.ensures ∙ month_between _ _ _ c.first_day.ensures c.first_day-then-self-lt1199.ensures

pub returns-else-self-lt1199 : goal.returns-else-self-lt1199
returns-else-self-lt1199 c =
    let last : c.args.self.number ≡ 1199 = omega (arith, c.if-self-lt1199.false, c.args.self.within) in
    sym (ap month_days last ∙ last_month)
