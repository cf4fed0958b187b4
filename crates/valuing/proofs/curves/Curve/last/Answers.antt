use native.Mathlib.Omega.{arith}
use Rattle.valuing.proofs.Pricing.{last_start, last_found, last_next, last_end}
use Rattle.valuing.proofs.curves.Curve.last.Goals as goal

pub loop-v-init : goal.loop-v-init
loop-v-init c = rw c.vertex_count-v.ensures (last_start _ _)

pub returns-then-at-self : goal.returns-then-at-self
returns-then-at-self c = last_found _ _ _ c.loop-v.invariant (omega arith) cc

pub loop-v-preserved : goal.loop-v-preserved
loop-v-preserved c = last_next _ _ _ c.loop-v.invariant (omega arith) (λ e. c.if-at-self.false cc)

pub returns : goal.returns
returns c = last_end _ _ _ c.loop-v.invariant (omega arith)
