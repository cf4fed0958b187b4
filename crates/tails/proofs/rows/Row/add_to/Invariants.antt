-- `tails::rows::Row::add_to` meets its contract. The loop's invariant: the first s sums have the vertex's P&L.
use lib.IntN.{pos, ◌+ℤ◌, ◌*ℤ◌}
use lib.ListN.{get_or}
use Rattle.numbers.proofs.Buffers.{FilledTo}
use Rattle.reading.specs.Book.{market_of}
use Rattle.tails.proofs.rows.Row.add_to.Given as goal

abbrev pub invariant-loop-s : goal.invariant-loop-s
invariant-loop-s g l =
    FilledTo (λ s. get_or l.initial.sums s (pos 0) +ℤ l.self.exposure *ℤ g.K.Kind.returns (market_of l.self.book.now) l.self.v s) l.s-end l.initial.sums l.s l.sums
