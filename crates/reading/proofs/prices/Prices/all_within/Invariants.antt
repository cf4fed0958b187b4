-- `reading::prices::Prices::all_within` meets its contract. The loop's invariant: the first j prices are good.
use Prim.Native.Nat.{◌+◌}
use mathlib.Core.Bool.{true}
use mathlib.Core.Path.{◌≡◌}
use Rattle.numbers.specs.Conditions.{within}
use Rattle.numbers.specs.Items.{every}
use Rattle.reading.specs.Prices.{price_entry}
use Rattle.reading.proofs.prices.Prices.all_within.Given as goal

abbrev pub invariant-loop-j : goal.invariant-loop-j
invariant-loop-j l = every (λ i. within 1 2000000 (price_entry l.self.bytes.now (l.from + i))) l.j ≡ true
