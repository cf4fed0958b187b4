-- W3: every volatility of a book that passed is reached by at most eight improvements of its variance's guess.
-- Assumes nothing.
use mathlib.Core.Path.{refl}
use native.Mathlib.Omega.{arith}
use Prim.Native.Nat.{◌≤◌}
use Rattle.numbers.proofs.Improvements.{eight_improvements}
use Rattle.reading.specs.Book.{Market, market_of}
use Rattle.reading.specs.Parameters.{smoothing}
use Rattle.scenarios.specs.Returns.{return_at}
use Rattle.scenarios.specs.Volatility.{volatility}
use Rattle.scenarios.specs.VolatilityRoots.{variance_at, VolatilitiesReached}
use Rattle.scenarios.specs.InnerContracts.{Simulated}
use Rattle.scenarios.proofs.Series.{variance_short}
use Rattle.scenarios.proofs.Sound.{simulated}

pub volatilities_reached : VolatilitiesReached
unfolding volatility
volatilities_reached book passed v j vertex return =
    let m : Market = market_of book in
    let s : Simulated m = simulated book passed in
    let most : variance_at m v j ≤ 10000000000000000 =
    variance_short (smoothing m.parameters) (return_at m v) s.market.parameters.ranges.smoothing_in.1 j
    (λ i le. s.return_in v i vertex (omega (arith, le, return))) in
    record {
      variance_in = omega (arith, most);
      is_root = refl;
      reached = eight_improvements (variance_at m v j) most;
    }
