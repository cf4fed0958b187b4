-- `tails::rows::Rows::undiversified` meets its contract. The loop's invariant: the sum has the tails of the first v vertices.
use Rattle.reading.specs.Book.{market_of}
use Rattle.tails.specs.InnerContracts.{mode_number}
use Rattle.tails.proofs.Sums.{AddedTo}
use Rattle.tails.proofs.rows.Rows.undiversified.Given as goal

abbrev pub invariant-loop-v : goal.invariant-loop-v
invariant-loop-v g l = AddedTo (mode_number l.mode) l.self.exposures.now (g.K.Kind.returns (market_of l.self.book.now)) l.self.lp l.k l.v l.sum.sum
