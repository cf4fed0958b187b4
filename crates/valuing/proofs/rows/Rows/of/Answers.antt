-- `valuing::rows::Rows::of` meets its contract. Curve and flows are the bond's, whose worth is not 0.
use mathlib.Core.Path.{◌∙◌}
use native.Mathlib.Omega.{arith}
use Rattle.valuing.specs.Split.{bond_flows}
use Rattle.valuing.proofs.rows.Rows.of.Goals as goal

pub fill_rows-total-requires-clause-valued : goal.fill_rows-total-requires-clause-valued
unfolding bond_flows
fill_rows-total-requires-clause-valued c = rw (c.of-curve.ensures, c.flows_of-stretch.ensures.has) c.requires.valued

pub fill_rows-total-requires-clause-fits : goal.fill_rows-total-requires-clause-fits
fill_rows-total-requires-clause-fits c = omega (arith, (fill_rows-total-requires-clause-valued c).sound_flows.form.count.1, c.requires.fits)

pub new-requires : goal.new-requires
unfolding bond_flows
new-requires c = rw (c.fill_rows-total.ensures.total, c.of-curve.ensures, c.flows_of-stretch.ensures.has) c.requires.valued.worth_in.0

pub invariant_of-result : goal.invariant_of-result
unfolding bond_flows
invariant_of-result c =
    record {
      valued = rw (c.of-curve.ensures, c.flows_of-stretch.ensures.has) c.requires.valued;
      filled = c.fill_rows-total.ensures.filled;
      total_is = c.new.ensures ∙ c.fill_rows-total.ensures.total;
    }

pub returns-clause-stretch : goal.returns-clause-stretch
unfolding bond_flows
returns-clause-stretch c = c.flows_of-stretch.ensures.has
