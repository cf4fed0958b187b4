-- `valuing::rows::fill_rows` meets its contract. The loop's invariant: the rows of the first j flows are filled, and `sum` is the worth of these flows.
use Prim.Native.Nat.{◌≤◌}
use mathlib.Core.Path.{◌≡◌}
use Rattle.numbers.proofs.Buffers.{StoredTo}
use Rattle.valuing.specs.Check.{days_before}
use Rattle.valuing.specs.Curves.{upper}
use Rattle.valuing.specs.InnerContracts.{curve_in, RowIs}
use Rattle.valuing.specs.Split.{worth_before}
use Rattle.valuing.proofs.rows.fill_rows.Given as goal

abbrev pub invariant-loop-j : goal.invariant-loop-j
invariant-loop-j l = record {
  reached : l.upper ≤ upper l.curve.vertices.now l.curve.index (days_before l.stretch l.j);
  totals : l.sum ≡ worth_before (curve_in l.curve) l.stretch l.j;
  rows : StoredTo (RowIs (curve_in l.curve) l.stretch) l.j l.initial.rows l.rows;
}
