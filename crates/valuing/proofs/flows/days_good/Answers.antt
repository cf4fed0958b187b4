use mathlib.Core.Path.{refl, ◌∙◌}
use native.Mathlib.Omega.{arith}
use Rattle.numbers.proofs.Items.{every_none, every_next}
use Rattle.valuing.proofs.Checks.{days_bad, days_end}
use Rattle.valuing.proofs.Sound.{days_next}
use Rattle.valuing.proofs.flows.days_good.Goals as goal

pub loop-j-init : goal.loop-j-init
loop-j-init c = record { good = every_none _; last_days = refl }

pub returns-then-not-good : goal.returns-then-not-good
returns-then-not-good c =
    days_bad _ _ c.loop-j.j (omega arith)
    (rw (← c.at-flow.ensures.zero, ← c.at-flow.ensures.days, ← c.loop-j.invariant.last_days) c.if-not-good.true)

pub loop-j-preserved : goal.loop-j-preserved
loop-j-preserved c = record {
  good = every_next _ _ c.loop-j.invariant.good
      (rw (← c.at-flow.ensures.zero, ← c.at-flow.ensures.days, ← c.loop-j.invariant.last_days) c.if-not-good.false);
  last_days = c.at-flow.ensures.days ∙ days_next _ _;
}

pub returns : goal.returns
returns c = days_end _ _ _ (omega arith) c.loop-j.invariant.good
