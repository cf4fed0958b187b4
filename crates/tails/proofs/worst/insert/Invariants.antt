-- `tails::worst::insert` meets its contract. The loop's invariant: going back from `at`, the entries that are less have moved.
use Rattle.tails.specs.InnerContracts.{losses_of, scenarios_of}
use Rattle.tails.proofs.Insertion.{Inserting}
use Rattle.tails.proofs.worst.insert.Given as goal

abbrev pub invariant-loop-p : goal.invariant-loop-p
invariant-loop-p l = Inserting (losses_of l.initial.worst) (scenarios_of l.initial.worst) l.at l.one.loss l.p (losses_of l.worst) (scenarios_of l.worst)
