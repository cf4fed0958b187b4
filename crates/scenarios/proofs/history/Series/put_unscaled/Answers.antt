-- `scenarios::history::Series::put_unscaled` meets its contract. The last LP returns are copied.
use mathlib.Core.Path.{◌∙◌}
use native.Mathlib.Omega.{arith}
use Rattle.scenarios.proofs.Paths.{count_in_lem}
use Rattle.scenarios.proofs.StoredReturns.{unscaled_filled}
use Rattle.scenarios.proofs.history.Series.put_unscaled.Goals as goal

pub returns : goal.returns
returns c =
    unscaled_filled _ _ _ _ _ _ (c.from-first.ensures ∙ c.warm_up.ensures) (c.from-n.ensures ∙ c.lookback.ensures)
    (omega (arith, c.from-first.ensures, c.warm_up.ensures, c.from-n.ensures, c.lookback.ensures, count_in_lem _ _ c.args.history.now.sound))
    c.copy_from_slice.ensures.after
