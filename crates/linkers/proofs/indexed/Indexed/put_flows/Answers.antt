use mathlib.Core.Path.{◌∙◌}
use native.Mathlib.Omega.{arith}
use Rattle.std.proofs.lemmas.Result.{err_from_is_err_and}
use Rattle.calendar.proofs.DayNumbers.{calendar_in}
use Rattle.schedule.specs.Terms.{coupon}
use Rattle.schedule.proofs.Bonds.{dated_of}
use Rattle.linkers.proofs.Passing.{pass_dates, counted_on, passed_none, passed_room, passed_over, passed_put, passed_refused, passed_all, back_fits, month_held, number_is, after_evaluation, days_are}
use Rattle.std.proofs.Common.{◌-◌, ◌<◌}
use Rattle.linkers.proofs.indexed.Indexed.put_flows.Goals as goal
use Rattle.linkers.proofs.indexed.Indexed.put_flows.Goals.{then-j-count+in_ok-indexed_coupon, else-j-count}

pub calendar_month-last-requires : goal.calendar_month-last-requires
calendar_month-last-requires c = (calendar_in c.args.self.now.issued.maturity c.args.self.now.issued.matures).0

pub loop-r-init : goal.loop-r-init
loop-r-init c =
    let d = dated_of c.args.self.now.issued in
    passed_none _ d _ _ _ _ _ c.requires.counted (pass_dates _ d _ _ _ _ c.requires.counted _ c.dates_over-dates.ensures) _ c.issue_number-base.ensures

pub back-month-requires : goal.back-month-requires
back-month-requires c =
    back_fits _ (dated_of c.args.self.now.issued) _ _ _ _ c.loop-r.invariant.pass _ _ c.calendar_month-last.ensures c.months_apart-apart.ensures.0
    _ (omega (arith, c.loop-r-test.true))

pub number-number-requires : goal.number-number-requires
number-number-requires c =
    let d = dated_of c.args.self.now.issued in
    let low : c.dates_over-dates.result - 1 - c.loop-r.r < c.dates_over-dates.result = omega (arith, c.loop-r-test.true) in (
      month_held _ d _ _ _ _ c.loop-r.invariant.pass _ _ c.calendar_month-last.ensures c.months_apart-apart.ensures.0 _ low
          _ c.back-month.ensures c.args.self.now.first,
      omega (arith, c.from-day.ensures, (calendar_in c.args.self.now.issued.maturity c.args.self.now.issued.matures).1.0),
    )

pub indexed_coupon-requires : goal.indexed_coupon-requires
indexed_coupon-requires c =
    (omega (arith, c.coupon-coupon.ensures.1, c.args.self.now.issued.rated), (c.number-number.ensures.1.1, c.loop-r.invariant.by_in))

pub returns-in_err-indexed_coupon : goal.returns-in_err-indexed_coupon
unfolding coupon
returns-in_err-indexed_coupon c =
    let d = dated_of c.args.self.now.issued in
    let low : c.dates_over-dates.result - 1 - c.loop-r.r < c.dates_over-dates.result = omega (arith, c.loop-r-test.true) in
    let p = err_from_is_err_and c.from_residual.result c.from_residual.ensures.1 in
    let refused = c.in_err-indexed_coupon.ensures in
    rw p.1 (
      p.2 ∙ refused.0,
      passed_refused _ d _ _ _ _ _ c.requires.counted _ _ _ _ c.loop-r.invariant _ (omega (arith, c.loop-r-test.true)) c.number-number.result
          (number_is _ d _ _ _ _ c.loop-r.invariant.pass _ _ c.calendar_month-last.ensures c.months_apart-apart.ensures.0 _ low
          _ c.back-month.ensures _ c.from-day.ensures _ c.number-number.ensures.0)
          c.if-j-count.true (rw (← c.coupon-coupon.ensures.0) refused.1),
    )

pub day_in-requires : goal.day_in-requires
day_in-requires c = omega (arith, c.from-day.ensures, (calendar_in c.args.self.now.issued.maturity c.args.self.now.issued.matures).1.0)

pub overflow_sub-day_in : goal.overflow_sub-day_in
overflow_sub-day_in c =
    let d = dated_of c.args.self.now.issued in
    after_evaluation _ d _ _ _ _ c.loop-r.invariant.pass _ _ c.calendar_month-last.ensures c.months_apart-apart.ensures.0 _ (omega (arith, c.loop-r-test.true))
    _ c.back-month.ensures _ c.from-day.ensures _ c.day_in.ensures _ c.day_number-from.ensures
    (counted_on _ d _ c.args.self.now.prices.now _ _ c.requires.counted _ c.if-j-count.true)

pub put_paid-written-requires : goal.put_paid-written-requires
put_paid-written-requires c =
    passed_room _ (dated_of c.args.self.now.issued) _ _ _ _ _ c.requires.counted _ _ _ _ c.loop-r.invariant _ (omega (arith, c.loop-r-test.true)) c.if-j-count.true

pub loop-r-preserved : goal.loop-r-preserved
unfolding coupon
loop-r-preserved c =
    let d = dated_of c.args.self.now.issued in
    let low : c.dates_over-dates.result - 1 - c.loop-r.r < c.dates_over-dates.result = omega (arith, c.loop-r-test.true) in
    let own =
    number_is _ d _ _ _ _ c.loop-r.invariant.pass _ _ c.calendar_month-last.ensures c.months_apart-apart.ensures.0 _ low
    _ c.back-month.ensures _ c.from-day.ensures _ c.number-number.ensures.0 in
    elim c.if-j-count.branch [
      | then-j-count+in_ok-indexed_coupon w ↦
          let days =
          w.from-days.ensures
          ∙ days_are _ d _ _ _ _ c.loop-r.invariant.pass _ _ c.calendar_month-last.ensures c.months_apart-apart.ensures.0 _ low
          _ c.back-month.ensures _ c.from-day.ensures _ w.day_in.ensures _ c.day_number-from.ensures in
          rw (w.records-is, w.written-is)
          (passed_put _ d _ _ _ _ _ c.requires.counted _ _ _ _ c.loop-r.invariant _ (omega (arith, c.loop-r-test.true)) _ own _ c.next_base-base.ensures c.number-number.ensures.1
          w.if-j-count.true _ (rw (← c.coupon-coupon.ensures.0) w.in_ok-indexed_coupon.ensures) _ w.amount_on-amount.ensures _ days
          _ w.put_paid-written.ensures.count _ w.put_paid-written.ensures.bytes)
      | else-j-count w ↦ rw (w.records-is, w.written-is)
          (passed_over _ d _ _ _ _ _ c.requires.counted _ _ _ _ c.loop-r.invariant _ (omega (arith, c.loop-r-test.true)) _ own _ c.next_base-base.ensures c.number-number.ensures.1
          w.if-j-count.false)
    ]

pub returns : goal.returns
returns c =
    passed_all _ (dated_of c.args.self.now.issued) _ _ _ _ _ c.requires.counted _ _ _ _ c.loop-r.invariant c.loop-r-test.false
