-- `scenarios::history::Series::walk` meets its contract. The loop's invariant: the first j returns lie in their range, and they and their variances are stored.
use Rattle.reading.specs.Prices.{price_entry}
use Rattle.scenarios.specs.Returns.{return_from}
use Rattle.scenarios.proofs.ReturnPasses.{Walked}
use Rattle.scenarios.proofs.history.Series.walk.Given as goal

abbrev pub invariant-loop-j : goal.invariant-loop-j
invariant-loop-j l = Walked l.factor (return_from (price_entry l.path) l.hp) l.initial.self.returns l.initial.self.variances l.j l.self.returns l.self.variances l.variance
