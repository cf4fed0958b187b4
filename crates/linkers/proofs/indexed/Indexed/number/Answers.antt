-- `linkers::indexed::Indexed::number` meets its contract.
use mathlib.Core.Path.{refl, ◌∙◌}
use native.Mathlib.Nat.{mul-le-mul_right}
use native.Mathlib.Omega.{arith}
use Rattle.numbers.specs.Conditions.{In}
use Rattle.calendar.proofs.FirstDays.{month_length}
use Rattle.linkers.specs.Numbers.{index_number}
use Rattle.linkers.proofs.Numbers.{price_in, index_in}
use Prim.Native.Nat.{min}
use Rattle.calendar.specs.Months.{month_days}
use Rattle.std.proofs.Common.{◌-◌, ◌*◌, ◌≤◌, ◌≡◌}
use Rattle.linkers.proofs.indexed.Indexed.number.Goals as goal

-- both parts, and the days
parts : (c : goal.After-from-two_before)
    → (c.from-three_before.result * (c.days-days.result - (c.min-passed.result - 1)) ≤ 10000000 * (c.days-days.result - (c.min-passed.result - 1)))
    × (c.from-two_before.result * (c.min-passed.result - 1) ≤ 10000000 * (c.min-passed.result - 1))
    × (c.min-passed.result ≤ c.days-days.result)
    × (c.days-days.result ≤ 31)
parts c =
    let self = c.args.self.now in
    let lent = self.last in
    let three : In 1 10000000 c.from-three_before.result =
    rw c.from-three_before.ensures (price_in self.prices.now self.sound (c.args.month.number - 3) (omega (arith, c.requires.0.0, c.requires.0.1, lent))) in
    let two : In 1 10000000 c.from-two_before.result =
    rw c.from-two_before.ensures (price_in self.prices.now self.sound (c.args.month.number - 2) (omega (arith, c.requires.0.0, c.requires.0.1, lent))) in (
      mul-le-mul_right _ three.1,
      mul-le-mul_right _ two.1,
      omega (arith, c.min-passed.ensures),
      omega (arith, c.days-days.ensures, (month_length c.args.month.number).1),
    )

pub overflow_sub-passed : goal.overflow_sub-passed
overflow_sub-passed c = omega (arith, c.min-passed.ensures, c.requires.1, c.days-days.ensures, (month_length c.args.month.number).0)

pub nearest_of-requires : goal.nearest_of-requires
nearest_of-requires c = omega (arith, c.days-days.ensures, (month_length c.args.month.number).0)

pub overflow_mul-three_before : goal.overflow_mul-three_before
overflow_mul-three_before c = let w = parts c in omega (arith, w.0, w.2, w.3)

pub overflow_mul-two_before : goal.overflow_mul-two_before
overflow_mul-two_before c = let w = parts c in omega (arith, w.1, w.2, w.3)

pub overflow_add-three_before : goal.overflow_add-three_before
overflow_add-three_before c = let w = parts c in omega (arith, w.0, w.1, w.2, w.3)

pub overflow_mul-three_before-2 : goal.overflow_mul-three_before-2
overflow_mul-three_before-2 c = let w = parts c in omega (arith, w.0, w.1, w.2, w.3)

pub returns : goal.returns
unfolding index_number
returns c =
    let self = c.args.self.now in
    let is : c.nearest_of.result ≡ index_number self.prices.now c.args.month.number (min c.args.day (month_days c.args.month.number)) =
    c.nearest_of.ensures ∙ rw (c.from-three_before.ensures, c.from-two_before.ensures, c.min-passed.ensures, c.days-days.ensures) refl in
    let held : In 1 (month_days c.args.month.number) (min c.args.day (month_days c.args.month.number)) =
    (omega (arith, c.requires.1, (month_length c.args.month.number).0), omega arith) in
    (is, rw is (index_in self.prices.now self.sound c.args.month.number (min c.args.day (month_days c.args.month.number)) c.requires.0.0 (omega (arith, c.requires.0.1, self.last)) held))
