use mathlib.Core.Path.{◌∙◌}
use native.Mathlib.Omega.{arith}
use Rattle.numbers.proofs.Findings.{passed_on}
use Rattle.numbers.proofs.Items.{reached_good}
use Rattle.valuing.specs.Split.{bond_flows}
use Rattle.valuing.proofs.Checks.{bond_refused, bonds_end, read_bond}
use Rattle.valuing.proofs.flows.check_bond_flows.Goals as goal

pub check_flows-requires : goal.check_flows-requires
unfolding bond_flows
check_flows-requires c = rw (c.of-curve.ensures, c.flows_of.ensures.has) (read_bond _ _ c.args.m.now.sound (omega arith))

pub returns-in_err-check_flows : goal.returns-in_err-check_flows
unfolding bond_flows
returns-in_err-check_flows c =
    passed_on _ _ c.from_residual.ensures.1
    ∙ bond_refused _ _ c.loop-i.invariant (omega arith) (rw (← c.of-curve.ensures, ← c.flows_of.ensures.has) c.in_err-check_flows.ensures)

pub loop-i-preserved : goal.loop-i-preserved
unfolding bond_flows
loop-i-preserved c =
    reached_good _ _ _ c.loop-i.invariant (omega arith) (rw (← c.of-curve.ensures, ← c.flows_of.ensures.has) c.in_ok-check_flows.ensures)

pub returns : goal.returns
returns c = bonds_end _ _ c.loop-i.invariant (omega arith)
