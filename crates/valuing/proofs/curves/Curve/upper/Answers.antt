use mathlib.Core.Path.{◌∙◌}
use native.Mathlib.Omega.{arith}
use Rattle.valuing.proofs.Pricing.{upper_found, upper_next, upper_end}
use Rattle.valuing.proofs.curves.Curve.upper.Goals as goal

pub returns-then-reached : goal.returns-then-reached
returns-then-reached c = upper_found _ _ _ _ c.loop-v.invariant (omega arith) (rw (← c.at-own.ensures.curve, ← c.at-own.ensures.days) c.if-reached.true)

pub loop-v-preserved : goal.loop-v-preserved
loop-v-preserved c = upper_next _ _ _ _ c.loop-v.invariant (omega arith) (rw (← c.at-own.ensures.curve, ← c.at-own.ensures.days) c.if-reached.false)

pub returns : goal.returns
returns c = c.vertex_count-n.ensures ∙ upper_end _ _ _ _ c.loop-v.invariant (omega arith)
