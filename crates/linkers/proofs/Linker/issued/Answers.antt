-- `linkers::Linker::issued` meets its contract: the refusals in their order, or the bond.
use mathlib.Core.Path.{sym, ◌∙◌}
use Rattle.std.proofs.lemmas.Result.{err_from_is_err_and}
use Rattle.linkers.proofs.Dates.{issue_refused, others_refused, issued_as}
use Rattle.linkers.proofs.Linker.issued.Goals as goal

pub returns-then-not-in_calendar : goal.returns-then-not-in_calendar
returns-then-not-in_calendar c = issue_refused c.args.self c.args.evaluation (sym c.in_calendar.ensures ∙ c.if-not-in_calendar.true)

pub returns-in_err-check_dates : goal.returns-in_err-check_dates
returns-in_err-check_dates c =
    let p = err_from_is_err_and c.from_residual.result c.from_residual.ensures.1 in
    rw p.1 (others_refused c.args.self c.args.evaluation (sym c.in_calendar.ensures ∙ c.if-not-in_calendar.false) _ _ (rw p.2 (sym c.in_err-check_dates.ensures)))

pub returns : goal.returns
returns c =
    issued_as c.args.self c.args.evaluation (sym c.in_calendar.ensures ∙ c.if-not-in_calendar.false) (sym c.in_ok-check_dates.ensures)
    c.new.result c.new.ensures
