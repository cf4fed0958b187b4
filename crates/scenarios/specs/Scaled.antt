-- Scaled returns, and the scenarios of both kinds.
use Rattle.std.specs.Prelude.{ℕ, ◌+◌, ◌-◌, ◌*◌, List, eqb, ℤ, pos, ◌*ℤ◌, if◌then◌else◌}
use Rattle.numbers.specs.Rounding.{nearest_z}
use Rattle.reading.specs.Book.{Market}
use Rattle.reading.specs.Parameters.{warm_up, smoothing}
use Rattle.scenarios.specs.Returns.{return_at, return_count}
use Rattle.scenarios.specs.Volatility.{volatility}

-- "Scaled return = nearest of return × (newest volatility + own volatility) / (2 × own volatility), the own one belonging to
-- that return; where it is 0 the scaled return is 0."
unfoldable pub scaled_of : ℤ → ℕ → ℕ → ℤ
scaled_of z newest own = if eqb own 0 then pos 0 else nearest_z (z *ℤ pos (newest + own)) (2 * own)

-- "newest volatility": the last return's, of all that there are
unfoldable pub newest_volatility : List ℕ → (ℕ → ℤ) → ℕ
newest_volatility p r = volatility (smoothing p) r (return_count p - 1)

-- "the last LP are its scenarios, numbered from 0": scenario s is return sw + s, for the returns r 0, r 1, ..
unfoldable pub unscaled_from : List ℕ → (ℕ → ℤ) → ℕ → ℤ
unscaled_from p r s = r (warm_up p + s)

-- and its scaled return, by the newest volatility and its own
unfoldable pub scaled_from : List ℕ → (ℕ → ℤ) → ℕ → ℤ
scaled_from p r s = scaled_of (unscaled_from p r s) (newest_volatility p r) (volatility (smoothing p) r (warm_up p + s))

-- "Scaled and unscaled returns are two kinds that never meet in one sum.": vertex v's unscaled return in scenario s
abbrev pub unscaled : Market → ℕ → ℕ → ℤ
unscaled m v s = unscaled_from m.parameters (return_at m v) s

-- and its scaled one
abbrev pub scaled : Market → ℕ → ℕ → ℤ
scaled m v s = scaled_from m.parameters (return_at m v) s
