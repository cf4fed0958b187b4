-- `tails::worst::Losses::least_of_four` meets its contract. The loop's invariant: the largest of the four lanes' losses of the sixteens so
-- far.
use lib.ListN.{get_or}
use Rattle.tails.proofs.Lanes.{AreMaxima}
use Rattle.tails.proofs.worst.Losses.least_of_four.Given as goal

abbrev pub invariant-loop-sixteen : goal.invariant-loop-sixteen
invariant-loop-sixteen l = AreMaxima (λ s. get_or l.self.all.now s 0) l.sixteen l.j l.a l.b l.c l.d
