use mathlib.Core.Path.{◌∙◌}
use Rattle.numbers.proofs.Findings.{passed_on}
use Rattle.numbers.proofs.Items.{reached_good, reached_refused, reached_end}
use Rattle.scenarios.specs.Check.{check_returns}
use Rattle.scenarios.proofs.scenario.check_returns.Goals as goal

pub loop-v-preserved : goal.loop-v-preserved
loop-v-preserved c = reached_good _ _ _ c.loop-v.invariant c.loop-v-test.true c.in_ok-check_vertex.ensures

pub returns-in_err-check_vertex : goal.returns-in_err-check_vertex
unfolding check_returns
returns-in_err-check_vertex c =
    passed_on _ _ c.from_residual.ensures.1
    ∙ rw (← c.vertex_count-v-end.ensures) (reached_refused _ _ _ c.loop-v.invariant c.loop-v-test.true c.in_err-check_vertex.ensures)

pub returns : goal.returns
unfolding check_returns
returns c = rw (← c.vertex_count-v-end.ensures) (reached_end _ _ _ c.loop-v.invariant c.loop-v-test.false)
