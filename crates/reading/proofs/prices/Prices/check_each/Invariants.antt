-- `reading::prices::Prices::check_each` meets its contract. The loop's invariant: what is left from vertex v on decides the whole.
use Rattle.numbers.proofs.Items.{Reached}
use Rattle.reading.specs.Prices.{price_code}
use Rattle.reading.proofs.prices.Prices.check_each.Given as goal

abbrev pub invariant-loop-v : goal.invariant-loop-v
invariant-loop-v l = Reached (price_code l.self.bytes.now l.self.history) l.vertices l.v
