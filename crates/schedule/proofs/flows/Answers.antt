-- `schedule::flows` meets its contract: the refusals of the terms, or what their bond comes to.
use Rattle.std.proofs.lemmas.Result.{err_from_is_err_and}
use Rattle.schedule.proofs.Drawing.{refusal_drawn, bond_refused}
use Rattle.schedule.proofs.flows.Goals as goal

pub returns-in_err-bond : goal.returns-in_err-bond
returns-in_err-bond c =
    let p = err_from_is_err_and c.from_residual.result c.from_residual.ensures.1 in
    rw (p.1, p.2)
    (refusal_drawn c.args.terms c.args.evaluation _ _ (bond_refused c.args.terms c.args.evaluation _ _ _ c.in_err-bond.ensures))

pub returns : goal.returns
returns c = rw (← c.in_ok-bond.ensures.0, ← c.in_ok-bond.ensures.1) c.draw.ensures
