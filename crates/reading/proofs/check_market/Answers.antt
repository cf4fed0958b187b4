-- `reading::check_market` meets its contract. Each place passed before the next is tested, so at each return the definition comes to the same place.
use mathlib.Core.Path.{sym, ◌∙◌}
use native.Mathlib.Omega.{arith}
use Rattle.numbers.proofs.Findings.{passed_on}
use Rattle.std.proofs.Common.{◌≡◌}
use Rattle.numbers.specs.Findings.{Passed, Refused, number_of, item_of}
use Rattle.reading.specs.Parameters.{history}
use Rattle.reading.specs.Vertices.{vertex_count}
use Rattle.reading.specs.Prices.{check_prices}
use Rattle.reading.specs.Check.{check_market}
use Rattle.reading.proofs.Forms.{ends_total}
use Rattle.reading.proofs.Sound.{parameters_sound, vertices_sound}
use Rattle.reading.proofs.check_market.Goals as goal

pub returns-in_err-check_parameters : goal.returns-in_err-check_parameters
unfolding check_market
returns-in_err-check_parameters c = passed_on _ _ c.from_residual.ensures.1 ∙ simp (sym c.in_err-check_parameters.ensures)

pub returns-in_err-check_vertices : goal.returns-in_err-check_vertices
unfolding check_market
returns-in_err-check_vertices c =
    passed_on _ _ c.from_residual-in_err-check_vertices.ensures.1
    ∙ simp (sym c.in_ok-check_parameters.ensures, sym c.in_err-check_vertices.ensures)

pub invariant_of-p : goal.invariant_of-p
invariant_of-p c = record { sized = omega (arith, (parameters_sound _ (sym c.in_ok-check_parameters.ensures)).size) }

pub check-requires-clause-few : goal.check-requires-clause-few
check-requires-clause-few c = rw c.vertex_count.ensures (vertices_sound _ (sym c.in_ok-check_vertices.ensures)).form.count.1

pub returns-in_err-check : goal.returns-in_err-check
unfolding check_market
returns-in_err-check c =
    let is : Refused (number_of c.in_err-check.field-0.0) (item_of c.in_err-check.field-0.0) ≡ check_prices c.args.m.now.prices.now (vertex_count c.args.m.now.vertices.now) (history c.args.m.now.parameters.now) =
    rw (← c.vertex_count.ensures, ← c.history.ensures.value) c.in_err-check.ensures in
    passed_on _ _ c.from_residual-in_err-check.ensures.1
    ∙ simp (sym c.in_ok-check_parameters.ensures, sym c.in_ok-check_vertices.ensures, sym is)

pub returns-in_err-check_bonds : goal.returns-in_err-check_bonds
unfolding check_market
returns-in_err-check_bonds c =
    let passed : Passed ≡ check_prices c.args.m.now.prices.now (vertex_count c.args.m.now.vertices.now) (history c.args.m.now.parameters.now) =
    rw (← c.vertex_count.ensures, ← c.history.ensures.value) c.in_ok-check.ensures in
    passed_on _ _ c.from_residual-in_err-check_bonds.ensures.1
    ∙ simp (sym c.in_ok-check_parameters.ensures, sym c.in_ok-check_vertices.ensures, sym passed, sym c.in_err-check_bonds.ensures)

pub flow_total-requires : goal.flow_total-requires
flow_total-requires c = ends_total _ _ (sym c.in_ok-check_bonds.ensures)

pub returns : goal.returns
unfolding check_market
returns c =
    let passed : Passed ≡ check_prices c.args.m.now.prices.now (vertex_count c.args.m.now.vertices.now) (history c.args.m.now.parameters.now) =
    rw (← c.vertex_count.ensures, ← c.history.ensures.value) c.in_ok-check.ensures in
    simp (sym c.in_ok-check_parameters.ensures, sym c.in_ok-check_vertices.ensures, sym passed, sym c.in_ok-check_bonds.ensures)
    (rw (← c.flow_total.ensures.value) c.check_flows.ensures)
