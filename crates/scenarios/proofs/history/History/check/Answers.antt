-- `scenarios::history::History::check` meets its contract. A calm vertex is good; else a return out of its range decides, then the scaled scenarios.
use mathlib.Core.Path.{refl, sym, ◌∙◌, ap}
use native.Mathlib.Omega.{arith}
use Rattle.scenarios.proofs.StoredReturns.{stored_bad, stored_held, stored_scaled}
use Rattle.scenarios.proofs.Moves.{calm_good}
use Rattle.std.proofs.Common.{is_ok}
use Rattle.std.proofs.lemmas.Result.{err_from_is_err_and}
use Rattle.scenarios.proofs.history.History.check.Goals as goal

pub returns-then-is_calm : goal.returns-then-is_calm
returns-then-is_calm c =
    calm_good _ _ _ (λ j low. (c.args.self.now.sound.price_in j (omega (arith, low))).0) (sym c.is_calm.ensures ∙ c.if-is_calm.true)
    c.args.self.now.sound.parameters

pub returns-in_err-walk : goal.returns-in_err-walk
returns-in_err-walk c =
    ap is_ok (err_from_is_err_and c.from_residual.result c.from_residual.ensures.1).1 ∙ stored_bad _ _ _ _ _ _ _ c.in_err-walk.ensures refl

pub put_scaled-requires-clause-held : goal.put_scaled-requires-clause-held
put_scaled-requires-clause-held c = stored_held _ _ _ _ _ _ _ c.in_ok-walk.ensures refl

pub returns : goal.returns
returns c = stored_scaled _ _ _ _ _ _ _ c.in_ok-walk.ensures refl _ _ _ c.put_scaled.ensures
