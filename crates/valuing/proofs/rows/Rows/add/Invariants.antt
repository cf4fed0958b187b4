-- `valuing::rows::Rows::add` meets its contract. The loop's invariant: the parts of the first j flows are added, and `floor` is the floor at the end of these flows.
use mathlib.Core.Path.{◌≡◌}
use lib.IntN.{nat_abs}
use Rattle.numbers.specs.InnerContracts.{added}
use Rattle.reading.specs.Vertices.{vertex_count}
use Rattle.valuing.specs.InnerContracts.{curve_in}
use Rattle.valuing.specs.Split.{floor_at}
use Rattle.valuing.proofs.Adding.{parts_up_to}
use Rattle.valuing.proofs.rows.Rows.add.Given as goal

abbrev pub invariant-loop-row : goal.invariant-loop-row
invariant-loop-row l = record {
  given : l.floor ≡ floor_at (curve_in l.self.curve) l.self.stretch.now (nat_abs l.value) l.row-index;
  parts : l.out ≡ added (parts_up_to (curve_in l.self.curve) l.self.stretch.now l.value l.row-index) (vertex_count l.self.curve.vertices.now) l.initial.out;
}
