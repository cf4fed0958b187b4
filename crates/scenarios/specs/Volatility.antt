-- Variances and volatilities, one per return.
use Rattle.std.specs.Prelude.{ℕ, zero, suc, ◌+◌, ◌-◌, ◌*◌, ◌/◌, ℤ, nat_abs}
use Rattle.numbers.specs.Root.{root}

-- a return's "square × 10,000"
abbrev pub own_variance : ℤ → ℕ
own_variance z = nat_abs z * nat_abs z * 10000

-- "then the floor of (smoothing factor × variance before + (1,000 − smoothing factor) × this return's square × 10,000) /
-- 1,000"
unfoldable pub next_variance : ℕ → ℕ → ℤ → ℕ
next_variance factor before z = (factor * before + (1000 - factor) * own_variance z) / 1000

-- "Variance (ours), one per return: at the first, its square × 10,000": of return j, for the returns r 0, r 1, ..
unfoldable pub variance : ℕ → (ℕ → ℤ) → ℕ → ℕ
variance factor r zero = own_variance (r 0)
variance factor r (suc j) = next_variance factor (variance factor r j) (r (suc j))

-- "Volatility is the variance's whole square root, rounded down."
unfoldable pub volatility : ℕ → (ℕ → ℤ) → ℕ → ℕ
volatility factor r j = root (variance factor r j)
