use mathlib.Core.Path.{sym, ap, ◌∙◌}
use native.Mathlib.Omega.{arith}
use Rattle.scenarios.specs.InnerContracts.{scaled_entry}
use Rattle.scenarios.specs.Returns.{in_range}
use Rattle.scenarios.proofs.ReturnPasses.{scaled_came, range_held, filling_none, filling_next, filling_bad}
use Rattle.std.proofs.Common.{◌≡◌, true}
use Rattle.std.proofs.lemmas.Result.{err_from_is_err_and}
use Rattle.scenarios.proofs.scaling.fill_scaled.Goals as goal

pub loop-s-init : goal.loop-s-init
loop-s-init c = filling_none _ _

pub returns-in_err-out : goal.returns-in_err-out
returns-in_err-out c =
    let value = scaled_came c.args.returns.now c.args.variances.now c.args.newest c.loop-s.s _ (c.requires.return_in c.loop-s.s c.loop-s-test.true) c.from.type_inv c.from.ensures c.root_of.ensures (rw c.of-r.ensures at c.scaled_of-x.ensures) in
    let err = (err_from_is_err_and c.from_residual.result c.from_residual.ensures.1).1 in
    rw err (filling_bad _ _ _ _ c.loop-s.invariant _ c.loop-s-test.true (ap in_range (sym value) ∙ sym c.in_err-out.ensures.whether))

pub loop-s-preserved : goal.loop-s-preserved
loop-s-preserved c =
    let value = scaled_came c.args.returns.now c.args.variances.now c.args.newest c.loop-s.s _ (c.requires.return_in c.loop-s.s c.loop-s-test.true) c.from.type_inv c.from.ensures c.root_of.ensures (rw c.of-r.ensures at c.scaled_of-x.ensures) in
    let good : in_range (scaled_entry c.args.returns.now c.args.variances.now c.args.newest c.loop-s.s) ≡ true =
    ap in_range (sym value) ∙ sym c.in_ok-out.ensures.whether in
    filling_next _ _ _ _ c.loop-s.invariant _ (omega (arith, c.requires.out_size, c.loop-s-test.true)) good (range_held _ (c.in_ok-out.ensures.held ∙ value) good)
