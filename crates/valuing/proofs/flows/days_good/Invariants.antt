-- `valuing::flows::days_good` meets its contract. The loop's invariant: the first j flows are good, and `before` has the days of the flow before flow j.
use mathlib.Core.Bool.{true}
use mathlib.Core.Path.{◌≡◌}
use Rattle.numbers.specs.Items.{every}
use Rattle.valuing.specs.Check.{days_before, flow_good}
use Rattle.valuing.proofs.flows.days_good.Given as goal

abbrev pub invariant-loop-j : goal.invariant-loop-j
invariant-loop-j l = record {
  good : every (flow_good l.stretch l.last) l.j ≡ true;
  last_days : l.before ≡ days_before l.stretch l.j;
}
