-- `linkers::prices::prices_good` meets its contract. The loop's invariant: what the first i prices come to.
use Rattle.numbers.specs.Conditions.{within}
use Rattle.numbers.specs.Items.{every}
use Rattle.linkers.specs.Numbers.{price_of}
use Rattle.linkers.proofs.prices.prices_good.Given as goal
use mathlib.Core.Path.{◌≡◌}

abbrev pub invariant-loop-i : goal.invariant-loop-i
invariant-loop-i l = l.good ≡ every (λ i. within 1 10000000 (price_of l.prices i)) l.i
