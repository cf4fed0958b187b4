-- `margin::run` meets its contract: demands 1 and 2.
use mathlib.Core.Path.{sym}
use Rattle.std.proofs.lemmas.Result.{err_from_is_err_and}
use Rattle.margin.proofs.Ran.{refusal_ran, margin_ran}
use Rattle.margin.proofs.run.Goals as goal

pub returns-in_err-check : goal.returns-in_err-check
returns-in_err-check c =
    let p = err_from_is_err_and c.from_residual.result c.from_residual.ensures.1 in
    rw (p.1, p.2) (refusal_ran _ _ _ _ _ (sym c.in_err-check.ensures))

pub fill_all-requires : goal.fill_all-requires
fill_all-requires c = sym c.in_ok-check.ensures

pub returns : goal.returns
returns c = margin_ran _ _ _ _ _ _ _ _ (sym c.in_ok-check.ensures) c.fill_all.ensures
