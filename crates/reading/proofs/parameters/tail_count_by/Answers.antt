-- `reading::parameters::tail_count_by` meets its contract. The product fits, and the rounded number is raised to 1 where it is less.
use mathlib.Core.Path.{ap}
use native.Mathlib.Omega.{arith}
use Rattle.std.proofs.Common.{ℕ, ◌*◌}
use Rattle.numbers.specs.Rounding.{nearest_down}
use Rattle.reading.specs.Parameters.{tail_count_by}
use Rattle.reading.proofs.parameters.tail_count_by.Goals as goal

pub returns : goal.returns
unfolding tail_count_by
returns c = omega (arith, c.max.ensures, ap (λ (q : ℕ). nearest_down (q * c.from-2.result) 10000) c.from.ensures, ap (λ (q : ℕ). nearest_down (c.args.lookback * q) 10000) c.from-2.ensures)
