-- `scenarios::scenario::check_returns` meets its contract. The loop's invariant: what is left at vertex v decides the whole.
use Rattle.numbers.proofs.Items.{Reached}
use Rattle.reading.specs.InnerContracts.{market_in}
use Rattle.scenarios.specs.Check.{returns_code}
use Rattle.scenarios.proofs.scenario.check_returns.Given as goal

abbrev pub invariant-loop-v : goal.invariant-loop-v
invariant-loop-v l = Reached (returns_code (market_in l.m.market)) l.v-end l.v
