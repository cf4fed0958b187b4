use mathlib.Core.Path.{ap, ◌∙◌, sym}
use native.Mathlib.Omega.{arith}
use Rattle.scenarios.specs.InnerContracts.{step_variance}
use Rattle.scenarios.specs.Returns.{return_from, in_range}
use Rattle.scenarios.proofs.Paths.{count_in_lem}
use Rattle.scenarios.proofs.ReturnPasses.{range_held, walked_none, walked_next, walked_bad}
use Rattle.std.proofs.Common.{◌≡◌, true}
use Rattle.reading.specs.Prices.{price_entry}
use Rattle.std.proofs.lemmas.Result.{err_from_is_err_and}
use Rattle.scenarios.proofs.history.Series.walk.Goals as goal

pub loop-j-init : goal.loop-j-init
loop-j-init c = walked_none _ _ _ _

pub returns-in_err-self : goal.returns-in_err-self
unfolding return_from
returns-in_err-self c =
    let is : c.return_of-r.result.0 ≡ return_from (price_entry c.args.history.now.path.now) c.from-hp.result c.loop-j.j =
    rw (← c.price_entry.ensures, ← c.price_entry-in-loop-j.ensures) c.return_of-r.ensures in
    let err = (err_from_is_err_and c.from_residual.result c.from_residual.ensures.1).1 in
    rw (err, ← c.smoothing.ensures, ← c.from-factor.ensures, ← c.holding_period.ensures, ← c.from-hp.ensures, ← c.count-j-end.ensures)
    (walked_bad _ _ _ _ _ _ _ _ c.loop-j.invariant _ c.loop-j-test.true (ap in_range (sym is) ∙ sym c.in_err-self.ensures.whether))

pub loop-j-preserved : goal.loop-j-preserved
unfolding return_from
loop-j-preserved c =
    let is : c.return_of-r.result.0 ≡ return_from (price_entry c.args.history.now.path.now) c.from-hp.result c.loop-j.j =
    rw (← c.price_entry.ensures, ← c.price_entry-in-loop-j.ensures) c.return_of-r.ensures in
    let good : in_range (return_from (price_entry c.args.history.now.path.now) c.from-hp.result c.loop-j.j) ≡ true =
    ap in_range (sym is) ∙ sym c.in_ok-self.ensures.whether in
    let most = count_in_lem _ _ c.args.history.now.sound in
    walked_next _ _ _ _ _ _ _ _ c.loop-j.invariant _ _ (omega (arith, most, c.count-j-end.ensures, c.loop-j-test.true))
    (omega (arith, most, c.count-j-end.ensures, c.loop-j-test.true)) good (range_held _ (c.in_ok-self.ensures.held ∙ is) good)
    (c.variance_at-variance.ensures.0 ∙ ap (step_variance c.from-factor.result c.loop-j.j c.loop-j.variance) is) c.variance_at-variance.ensures.1
