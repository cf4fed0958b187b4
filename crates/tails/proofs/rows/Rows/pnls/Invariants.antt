-- `tails::rows::Rows::pnls` meets its contract. The loop's invariant: the sums have the terms of the first v vertices.
use Rattle.reading.specs.Book.{market_of}
use Rattle.tails.proofs.Sums.{SummedTo}
use Rattle.tails.proofs.rows.Rows.pnls.Given as goal

abbrev pub invariant-loop-v : goal.invariant-loop-v
invariant-loop-v g l = SummedTo (g.K.Kind.returns (market_of l.self.book.now)) l.self.exposures.now l.self.lp l.v l.out
