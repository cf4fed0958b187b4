-- `scenarios::history::variance_at` meets its contract. Each branch is one of the definition's two cases.
use native.Mathlib.Nat.{div-le_of_le-mul}
use Rattle.scenarios.proofs.Series.{smoothed_in, step_later}
use Rattle.scenarios.proofs.history.variance_at.Goals as goal

pub returns-else-j-eq0 : goal.returns-else-j-eq0
returns-else-j-eq0 c = (
  step_later c.args.factor c.args.j c.args.before _ c.args.r.0
      c.own_variance-own.ensures.0 c.if-j-eq0.false,
  div-le_of_le-mul 1000
      (smoothed_in c.args.factor c.args.before c.own_variance-own.result 10000000000000000
      c.requires.0 c.requires.1 c.own_variance-own.ensures.1),
)
