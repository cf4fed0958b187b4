-- `reading::flows::check_flows` meets its contract. The test is the definition's.
use borrow.Author.Tests.{eq-eqb, ne_eqb}
use Rattle.reading.specs.Flows.{check_flows}
use Rattle.reading.proofs.flows.check_flows.Goals as goal

pub returns-then-flows-total : goal.returns-then-flows-total
unfolding check_flows
returns-then-flows-total c = simp (ne_eqb _ _ c.if-flows-total.true)

pub returns : goal.returns
unfolding check_flows
returns c = simp (eq-eqb _ _ c.if-flows-total.false)
