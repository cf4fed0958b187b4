use mathlib.Core.Path.{refl, ap, ◌∙◌}
use native.Mathlib.Omega.{arith}
use Rattle.calendar.proofs.DayNumbers.{calendar_in}
use Rattle.schedule.specs.Terms.{coupon}
use Rattle.schedule.proofs.Putting.{put_none, put_next, back_fits, after_evaluation, put_all}
use Rattle.std.proofs.Common.{ℕ, ◌-◌}
use Rattle.schedule.proofs.dates.Bond.put_flows.Goals as goal

pub calendar_month-last-requires : goal.calendar_month-last-requires
calendar_month-last-requires c = (calendar_in c.args.self.maturity c.args.self.matures).0

pub loop-r-init : goal.loop-r-init
loop-r-init c = put_none _ _ _ _ _ _ _

pub back-requires : goal.back-requires
back-requires c =
    back_fits _ _ _ _ c.requires _ _ _ c.calendar_month-last.ensures c.months_apart-apart.ensures.0 c.day_number-from.ensures
    _ (omega (arith, c.loop-r-test.true))

pub day_in-requires : goal.day_in-requires
day_in-requires c = omega (arith, c.from-day.ensures, (calendar_in c.args.self.maturity c.args.self.matures).1.0)

pub overflow_sub-day_in : goal.overflow_sub-day_in
overflow_sub-day_in c =
    after_evaluation _ _ _ _ c.requires _ _ _ c.calendar_month-last.ensures c.months_apart-apart.ensures.0 c.day_number-from.ensures
    (c.args.count - 1 - c.loop-r.r) (omega (arith, c.loop-r-test.true)) _ (c.day_in.ensures ∙ rw (c.back.ensures, c.from-day.ensures) refl)

pub loop-r-preserved : goal.loop-r-preserved
loop-r-preserved c =
    put_next _ _ _ _ _ _ _ _ _ c.loop-r.invariant c.requires.fits _ _ _ c.loop-r-test.true
    (c.from-days.ensures ∙ ap (λ (x : ℕ). x - c.day_number-from.result) (c.day_in.ensures ∙ rw c.back.ensures refl))
    c.amount_on.ensures c.put_flow.ensures

pub returns : goal.returns
unfolding coupon
returns c =
    put_all _ _ _ _ c.requires _ _ _ c.calendar_month-last.ensures c.months_apart-apart.ensures.0 c.day_number-from.ensures
    _ c.coupon-coupon.ensures.0 _ c.from-day.ensures _ _ _ c.loop-r.invariant c.loop-r-test.false
