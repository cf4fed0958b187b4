-- `tails::list_of` meets its contract. The loop's invariant: the first j numbers are there.
use lib.ListN.{get_or}
use Rattle.numbers.proofs.Buffers.{FilledTo}
use Rattle.tails.specs.InnerContracts.{scenarios_of}
use Rattle.tails.proofs.list_of.Given as goal

abbrev pub invariant-loop-j : goal.invariant-loop-j
invariant-loop-j l = FilledTo (λ q. get_or (scenarios_of l.worst) q 0) 16 l.initial.list l.j l.list
