-- A calm vertex: its prices' moves are so small that its returns and its scaled scenarios lie in their range.
-- Assumes nothing.
use Prim.Native.Nat.{ℕ, ◌+◌, ◌-◌, ◌*◌, ◌≤◌, ◌<◌}
use mathlib.Core.Bool.{true}
use mathlib.Core.List.{List}
use mathlib.Core.Path.{◌≡◌, sym, ap}
use native.Mathlib.Nat.{mul_comm, mul-add, mul-mul-mul_comm}
use native.Mathlib.Omega.{arith}
use borrow.Author.Tests.{leb-true}
use lib.Dec.{leb}
use lib.IntN.{ℤ, pos, nat_abs, ◌-ℤ◌, ◌*ℤ◌}
use Rattle.numbers.specs.Root.{root}
use Rattle.numbers.proofs.Items.{both, every_each, every_all}
use Rattle.numbers.proofs.Roots.{root_bound}
use Rattle.numbers.proofs.Rounding.{nearest-le}
use Rattle.numbers.proofs.Signs.{nat_abs-sub, nat_abs_mul, nat_abs_nearest}
use Rattle.reading.specs.Parameters.{lookback, warm_up, smoothing}
use Rattle.reading.specs.InnerContracts.{SoundParameters}
use Rattle.scenarios.specs.Check.{series_good}
use Rattle.scenarios.specs.InnerContracts.{calm_bound, calm_move, is_calm}
use Rattle.scenarios.specs.Returns.{return_of, return_from, return_count, in_range}
use Rattle.scenarios.specs.Scaled.{newest_volatility, unscaled_from, scaled_from}
use Rattle.scenarios.specs.Volatility.{variance, volatility}
use Rattle.scenarios.proofs.Series.{ranges_all, own_in, variance_in_lem, variance_own}
use Rattle.scenarios.proofs.Volatilities.{calm_in}

-- the bound is at most 1,000,000
pub bound_in : (factor : ℕ) → calm_bound factor ≤ 1000000
unfolding calm_bound
bound_in factor = omega (arith, root_bound (10 * (1000 - factor)) 100 (omega arith))

-- ---- a calm move

distance_in : (bound earlier later : ℕ) → bound ≤ 1000000 → later * 1000000 ≤ earlier * (1000000 + bound) → earlier * (1000000 - bound) ≤ later * 1000000
    → ((later - earlier) + (earlier - later)) * 1000000 ≤ bound * earlier
distance_in bound earlier later most up down =
    let w : ℕ = 1000000 - bound in
    let whole : w + bound ≡ 1000000 = omega arith in
    omega (arith, up, down, mul-add earlier 1000000 bound, mul-add earlier w bound, ap (λ (a : ℕ). earlier * a) whole, mul_comm bound earlier)

-- its return is at most the bound in size
pub move_return : (bound earlier later : ℕ) → bound ≤ 1000000 → 1 ≤ earlier → calm_move bound earlier later ≡ true → nat_abs (return_of earlier later) ≤ bound
unfolding return_of
move_return bound earlier later most some calm =
    let sides = both (leb (later * 1000000) (earlier * (1000000 + bound))) (leb (earlier * (1000000 - bound)) (later * 1000000)) calm in
    rw (nat_abs_nearest ((pos later -ℤ pos earlier) *ℤ pos 1000000) earlier, nat_abs_mul (pos later -ℤ pos earlier) (pos 1000000), nat_abs-sub later earlier)
    (nearest-le (((later - earlier) + (earlier - later)) * 1000000) earlier bound some
    (distance_in bound earlier later most (leb-true (later * 1000000) (earlier * (1000000 + bound)) sides.0) (leb-true (earlier * (1000000 - bound)) (later * 1000000) sides.1)))

-- ---- a calm series

hundredfold : (m : ℕ) → m * m * 10000 ≡ 100 * m * (100 * m)
hundredfold m = omega (arith, mul-mul-mul_comm 100 m 100 m)

module _ (p : List ℕ) (sound : SoundParameters p) (r : ℕ → ℤ) (small : (j : ℕ) → j < return_count p → nat_abs (r j) ≤ calm_bound (smoothing p)) where
  returns_in_lem : (j : ℕ) → j < return_count p → nat_abs (r j) ≤ 1000000
  returns_in_lem j low = omega (arith, small j low, bound_in (smoothing p))

  newest_low : newest_volatility p r ≤ 100 * calm_bound (smoothing p)
  unfolding newest_volatility volatility
  newest_low =
      let last : ℕ = return_count p - 1 in
      root_bound (variance (smoothing p) r last) (100 * calm_bound (smoothing p))
      (rw (← hundredfold (calm_bound (smoothing p)))
      (variance_in_lem (smoothing p) r sound.ranges.smoothing_in.1 (calm_bound (smoothing p) * calm_bound (smoothing p) * 10000) last
      (λ i le. own_in (r i) (calm_bound (smoothing p)) (small i (omega (arith, le, sound.ranges.lookback_in.0))))))

  -- the newest volatility is low
  newest_in_lem : newest_volatility p r ≤ 1000000 * root (10 * (1000 - smoothing p))
  unfolding calm_bound
  newest_in_lem = omega (arith, newest_low)

  -- returns of at most the bound make a good series
  pub calm_series : true ≡ series_good p r
  unfolding series_good scaled_from unscaled_from volatility
  calm_series =
      rw (ranges_all r (return_count p) returns_in_lem)
      (sym (every_all (λ s. in_range (scaled_from p r s)) (lookback p)
      (λ s low. calm_in (smoothing p) (newest_volatility p r) (variance (smoothing p) r (warm_up p + s)) (r (warm_up p + s)) newest_in_lem (returns_in_lem (warm_up p + s) (omega (arith, low))) (variance_own (smoothing p) r (warm_up p + s)))))

module _ (p : List ℕ) (prices : ℕ → ℕ) (hp : ℕ) (some : (j : ℕ) → j < return_count p → 1 ≤ prices j) (calm : is_calm (calm_bound (smoothing p)) prices hp (return_count p) ≡ true) where
  moves_in : (j : ℕ) → j < return_count p → nat_abs (return_from prices hp j) ≤ calm_bound (smoothing p)
  unfolding is_calm return_from
  moves_in j low =
      move_return (calm_bound (smoothing p)) (prices j) (prices (j + hp)) (bound_in (smoothing p)) (some j low)
      (every_each (λ i. calm_move (calm_bound (smoothing p)) (prices i) (prices (i + hp))) (return_count p) calm j low)

  -- a calm vertex has a good series
  pub calm_good : SoundParameters p → true ≡ series_good p (return_from prices hp)
  calm_good sound = calm_series p sound (return_from prices hp) moves_in
