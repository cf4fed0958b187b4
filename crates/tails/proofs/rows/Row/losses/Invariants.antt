-- `tails::rows::Row::losses` meets its contract. The loop's invariant: the first s losses are stored.
use Rattle.numbers.proofs.Buffers.{FilledTo}
use Rattle.reading.specs.Book.{market_of}
use Rattle.tails.specs.InnerContracts.{mode_number}
use Rattle.tails.proofs.Sums.{alone}
use Rattle.tails.proofs.rows.Row.losses.Given as goal

abbrev pub invariant-loop-s : goal.invariant-loop-s
invariant-loop-s g l = FilledTo (alone (mode_number l.fn.mode) l.self.exposure (g.K.Kind.returns (market_of l.self.book.now) l.self.v)) l.s-end l.initial.out l.s l.out
