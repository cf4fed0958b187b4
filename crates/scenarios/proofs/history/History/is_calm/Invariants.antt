-- `scenarios::calm::is_calm` meets its contract. The loop's invariant: the first j moves are calm.
use Prim.Native.Nat.{◌+◌}
use mathlib.Core.Bool.{true}
use mathlib.Core.Path.{◌≡◌}
use Rattle.numbers.specs.Items.{every}
use Rattle.reading.specs.Prices.{price_entry}
use Rattle.scenarios.specs.InnerContracts.{calm_move}
use Rattle.scenarios.proofs.history.History.is_calm.Given as goal

abbrev pub invariant-loop-j : goal.invariant-loop-j
invariant-loop-j l = every (λ i. calm_move l.bound (price_entry l.path i) (price_entry l.path (i + l.hp))) l.j ≡ true
