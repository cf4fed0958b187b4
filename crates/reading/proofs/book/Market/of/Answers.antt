-- `reading::book::Market::of` meets its contract: section by section.
use Rattle.reading.specs.Book.{market_of}
use Rattle.reading.proofs.book.Market.of.Goals as goal

pub returns : goal.returns
unfolding market_of
returns c = rw (c.of.ensures.has, c.of-2.ensures.has, c.of-3.ensures.has, c.of-4.ensures.has, c.of-5.ensures.has)
