-- `schedule::coupons::Frequency::coupon` meets its contract.
use native.Mathlib.Nat.{le_refl}
use native.Mathlib.Omega.{arith}
use Rattle.schedule.proofs.Counting.{coupon_once, coupon_twice}
use Rattle.schedule.proofs.coupons.Frequency.coupon.Goals as goal

pub returns-in-Yearly : goal.returns-in-Yearly
returns-in-Yearly c = rw (c.in-Yearly.is, c.from.ensures) (coupon_once c.args.rate, le_refl c.args.rate)

pub returns-in-HalfYearly : goal.returns-in-HalfYearly
returns-in-HalfYearly c = rw (c.in-HalfYearly.is, c.from-in-HalfYearly.ensures) (coupon_twice c.args.rate, omega arith)
