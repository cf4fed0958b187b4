-- `valuing::flows::worthless` meets its contract. The loop's invariant: the first j flows have no worth, and the vertex reached does not lie past the one that flow j wants.
use Prim.Native.Nat.{◌≤◌}
use mathlib.Core.Path.{◌≡◌}
use Rattle.valuing.specs.Check.{days_before}
use Rattle.valuing.specs.Curves.{upper}
use Rattle.valuing.specs.InnerContracts.{curve_in}
use Rattle.valuing.specs.Split.{worth_before}
use Rattle.valuing.proofs.flows.worthless.Given as goal

abbrev pub invariant-loop-j : goal.invariant-loop-j
invariant-loop-j l = record {
  reached : l.upper ≤ upper l.curve.vertices.now l.curve.index (days_before l.stretch l.j);
  none : worth_before (curve_in l.curve) l.stretch l.j ≡ 0;
}
