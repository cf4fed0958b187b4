-- Returns that agree below their count come to the same scenarios and to the same finding.
-- Assumes nothing.
use Prim.Native.Nat.{ℕ, ◌+◌, ◌-◌, ◌<◌}
use mathlib.Core.List.{List}
use mathlib.Core.Path.{◌≡◌, refl, ap}
use native.Mathlib.Omega.{arith}
use lib.IntN.{ℤ}
use Rattle.numbers.specs.Root.{root}
use Rattle.reading.specs.Parameters.{lookback, warm_up, smoothing}
use Rattle.scenarios.specs.Check.{series_good}
use Rattle.scenarios.specs.Returns.{return_count}
use Rattle.scenarios.specs.Scaled.{newest_volatility, unscaled_from, scaled_from}
use Rattle.scenarios.specs.Volatility.{volatility}
use Rattle.scenarios.proofs.Series.{ranges_same, variance_same}

module _ (p : List ℕ) (r q : ℕ → ℤ) (same : (j : ℕ) → j < return_count p → r j ≡ q j) where
  volatility_same : (j : ℕ) → j < return_count p → volatility (smoothing p) r j ≡ volatility (smoothing p) q j
  unfolding volatility
  volatility_same j low = ap root (variance_same (smoothing p) r q j (λ i le. same i (omega arith)))

  -- the same unscaled scenario
  pub unscaled_same : (s : ℕ) → s < lookback p → unscaled_from p r s ≡ unscaled_from p q s
  unfolding unscaled_from
  unscaled_same s low = same (warm_up p + s) (omega arith)

  -- the same scaled scenario
  pub scaled_same : (s : ℕ) → s < lookback p → scaled_from p r s ≡ scaled_from p q s
  unfolding scaled_from newest_volatility
  scaled_same s low = rw (unscaled_same s low, volatility_same (return_count p - 1) (omega arith), volatility_same (warm_up p + s) (omega arith)) refl

  -- all lie in their range, or not all do
  pub series_same : series_good p r ≡ series_good p q
  unfolding series_good
  series_same =
      rw (
        ranges_same r (return_count p) q same,
        ranges_same (scaled_from p r) (lookback p) (scaled_from p q) scaled_same,
      )
      refl
