-- `scenarios::scaling::fill_scaled` meets its contract. The loop's invariant: the first s scaled returns lie in their range and are stored.
use Rattle.scenarios.specs.InnerContracts.{scaled_entry}
use Rattle.scenarios.proofs.ReturnPasses.{Filling}
use Rattle.scenarios.proofs.scaling.fill_scaled.Given as goal

abbrev pub invariant-loop-s : goal.invariant-loop-s
invariant-loop-s l = Filling (scaled_entry l.returns l.variances l.newest) l.initial.out l.s l.out
