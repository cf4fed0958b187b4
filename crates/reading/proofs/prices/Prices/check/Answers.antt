-- `reading::prices::Prices::check` meets its contract. The product fits, and where the length is right the first bad vertex decides.
use borrow.Author.Tests.{eq-eqb, ne_eqb}
use Rattle.reading.specs.Prices.{check_prices}
use Rattle.reading.proofs.prices.Prices.check.Goals as goal

pub returns-then-self-vertices : goal.returns-then-self-vertices
unfolding check_prices
returns-then-self-vertices c = simp (ne_eqb _ _ c.if-self-vertices.true)

pub returns : goal.returns
unfolding check_prices
returns c = simp (eq-eqb _ _ c.if-self-vertices.false) c.check_each.ensures
