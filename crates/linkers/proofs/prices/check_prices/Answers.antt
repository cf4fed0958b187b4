-- `linkers::prices::check_prices` meets its contract.
use mathlib.Core.Path.{refl}
use Rattle.linkers.specs.Check.{check_prices}
use Rattle.linkers.proofs.prices.check_prices.Goals as goal

pub returns-then-not-prices_good : goal.returns-then-not-prices_good
unfolding check_prices
returns-then-not-prices_good c = rw (← c.prices_good.ensures, c.if-not-prices_good.true) refl

pub returns : goal.returns
unfolding check_prices
returns c = rw (← c.prices_good.ensures, c.if-not-prices_good.false) refl
