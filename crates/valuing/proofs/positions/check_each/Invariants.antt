-- `valuing::positions::check_each` meets its contract. The loop's invariant: what is left from position p on decides 18 and 19, and `sizes` totals the values before p.
use Prim.Native.Nat.{◌*◌, ◌≤◌}
use mathlib.Core.Path.{◌≡◌}
use Rattle.numbers.proofs.Items.{Reached}
use Rattle.valuing.specs.Positions.{value_total}
use Rattle.valuing.proofs.Checks.{code_at}
use Rattle.valuing.proofs.positions.check_each.Given as goal

abbrev pub invariant-loop-p : goal.invariant-loop-p
invariant-loop-p l = record {
  reached : Reached (code_at l.bonds l.positions) l.n l.p;
  totals : l.sizes ≡ value_total l.bonds l.positions l.p;
  small : l.sizes ≤ 20000000000 * l.p;
}
