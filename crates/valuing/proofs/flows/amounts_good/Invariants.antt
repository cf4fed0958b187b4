-- `valuing::flows::amounts_good` meets its contract. The loop's invariant: the first j amounts are good and total `sum`.
use Prim.Native.Nat.{◌*◌, ◌≤◌}
use mathlib.Core.Bool.{true}
use mathlib.Core.Path.{◌≡◌}
use Rattle.numbers.specs.Conditions.{within}
use Rattle.numbers.specs.Items.{every, total}
use Rattle.reading.specs.Flows.{flow_amount}
use Rattle.valuing.proofs.flows.amounts_good.Given as goal

abbrev pub invariant-loop-j : goal.invariant-loop-j
invariant-loop-j l = record {
  good : every (λ i. within 1 10000000 (flow_amount l.stretch i)) l.j ≡ true;
  totals : l.sum ≡ total (flow_amount l.stretch) l.j;
  small : l.sum ≤ 10000000 * l.j;
}
