-- `scenarios::history::Series::newest_volatility` meets its contract. The last of all returns has the newest variance.
use Rattle.numbers.proofs.Roots.{root_only}
use Rattle.scenarios.proofs.history.Series.newest_volatility.Goals as goal

pub returns : goal.returns
returns c = rw (← c.count.ensures) (root_only _ _ c.root_of.ensures)
