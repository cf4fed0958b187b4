-- Laws of index numbers: their bounds, and those of what the code works out for them.
-- Assumes nothing.
use Prim.Native.Nat.{ℕ, ◌+◌, ◌-◌, ◌*◌, ◌≤◌, ◌<◌}
use mathlib.Core.List.{List}
use mathlib.Core.Path.{◌≡◌}
use native.Mathlib.Nat.{mul-le-mul_right}
use native.Mathlib.Omega.{arith}
use lib.ListN.{length}
use Rattle.numbers.specs.Conditions.{In, within}
use Rattle.numbers.specs.Findings.{Passed}
use Rattle.numbers.specs.Items.{every}
use Rattle.numbers.specs.Rounding.{nearest}
use Rattle.numbers.proofs.Items.{every_each, in_range_lem}
use Rattle.numbers.proofs.Rounding.{nearest-le, nearest_mono, nearest_exact}
use Rattle.reading.proofs.Forms.{passed_then}
use Rattle.calendar.specs.Months.{month_days}
use Rattle.linkers.specs.Numbers.{price_of, index_number}
use Rattle.linkers.specs.Check.{check_prices}

-- ---- two prices by the days of each

module _ (p q a b n : ℕ) (first : In 1 10000000 p) (second : In 1 10000000 q) (days : a + b ≡ n) (long : 1 ≤ n) where
  mean_in : In 10 100000000 (nearest (10 * (p * a + q * b)) n)
  mean_in =
      let one : 1 * a ≤ p * a = mul-le-mul_right a first.0 in
      let other : 1 * b ≤ q * b = mul-le-mul_right b second.0 in (
        omega (arith, nearest_exact 10 n long, nearest_mono (10 * n) (10 * (p * a + q * b)) n long (omega arith)),
        nearest-le (10 * (p * a + q * b)) n 100000000 long (omega (arith, mul-le-mul_right a first.1, mul-le-mul_right b second.1)),
      )

-- ---- of prices that pass

module _ (prices : List ℕ) (sound : check_prices prices ≡ Passed) where
  pub price_in : (i : ℕ) → i < length prices → In 1 10000000 (price_of prices i)
  unfolding check_prices
  price_in i low =
      in_range_lem 1 10000000 (price_of prices i)
      (every_each (λ j. within 1 10000000 (price_of prices j)) (length prices)
      (passed_then (every (λ j. within 1 10000000 (price_of prices j)) (length prices)) Passed 28 0 sound).0 i low)

  -- a day of a month that has its prices
  module _ (month day : ℕ) (early : 3 ≤ month) (lent : month - 2 < length prices) (held : In 1 (month_days month) day) where
    pub index_in : In 10 100000000 (index_number prices month day)
    unfolding index_number
    index_in =
        mean_in (price_of prices (month - 3)) (price_of prices (month - 2)) (month_days month - (day - 1)) (day - 1) (month_days month)
        (price_in (month - 3) (omega arith)) (price_in (month - 2) lent) (omega (arith, held.0, held.1)) (omega (arith, held.0, held.1))
