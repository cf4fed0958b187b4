-- `linkers::coupons::indexed_coupon` meets its contract.
use mathlib.Core.Path.{refl, ap}
use native.Mathlib.Omega.{arith}
use Rattle.linkers.specs.Coefficients.{over}
use Rattle.linkers.proofs.Coefficients.{product_most, indexed_is}
use Rattle.std.proofs.Common.{◌*◌, ℕ}
use Rattle.linkers.proofs.coupons.indexed_coupon.Goals as goal

pub overflow_mul-coupon : goal.overflow_mul-coupon
unfolding over
overflow_mul-coupon c =
    let by = c.nearest_of-coefficient.ensures in
    omega (arith, ap (λ (n : ℕ). c.args.coupon * n) by, product_most c.args.number c.args.base c.requires.1.0 c.requires.1.1.0 c.args.coupon c.requires.0)

pub returns-then-indexed-gt10000000 : goal.returns-then-indexed-gt10000000
returns-then-indexed-gt10000000 c =
    (refl, omega (arith, indexed_is c.args.coupon c.args.number c.args.base _ _ c.nearest_of-coefficient.ensures c.nearest_of-indexed.ensures, c.if-indexed-gt10000000.true))

pub returns : goal.returns
returns c = (indexed_is c.args.coupon c.args.number c.args.base _ _ c.nearest_of-coefficient.ensures c.nearest_of-indexed.ensures, c.if-indexed-gt10000000.false)
