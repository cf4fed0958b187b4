-- `valuing::positions::check_total` meets its contract. The two returns are the definition's.
use borrow.Author.Tests.{le-leb, lt-leb}
use Rattle.valuing.specs.Positions.{total_finding}
use Rattle.valuing.proofs.positions.check_total.Goals as goal

pub returns-then-sizes-gt100000000000 : goal.returns-then-sizes-gt100000000000
unfolding total_finding
returns-then-sizes-gt100000000000 c = simp (lt-leb _ _ c.if-sizes-gt100000000000.true)

pub returns : goal.returns
unfolding total_finding
returns c = simp (le-leb _ _ c.if-sizes-gt100000000000.false)
