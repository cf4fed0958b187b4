-- `scenarios::history::Series::put_scaled` meets its contract. The last LP returns and their variances are scaled.
use mathlib.Core.Path.{◌∙◌}
use native.Mathlib.Omega.{arith}
use Rattle.scenarios.proofs.Paths.{count_in_lem}
use Rattle.scenarios.proofs.StoredReturns.{held_scalable, held_filled}
use Rattle.scenarios.proofs.history.Series.put_scaled.Goals as goal

pub fill_scaled-requires : goal.fill_scaled-requires
fill_scaled-requires c =
    let most = count_in_lem _ _ c.args.history.now.sound in
    held_scalable _ c.args.history.now.sound.parameters _ _ c.requires.held _ c.newest_volatility-newest.ensures _ _ (c.from-first.ensures ∙ c.warm_up.ensures)
    (c.from.ensures ∙ c.lookback.ensures) (omega (arith, most)) (omega (arith, most)) _ c.requires.room

pub returns : goal.returns
returns c =
    let most = count_in_lem _ _ c.args.history.now.sound in
    held_filled _ c.args.history.now.sound.parameters _ _ c.requires.held _ c.newest_volatility-newest.ensures _ _ (c.from-first.ensures ∙ c.warm_up.ensures)
    (c.from.ensures ∙ c.lookback.ensures) (omega (arith, most)) (omega (arith, most)) _ _ _ c.fill_scaled.ensures
