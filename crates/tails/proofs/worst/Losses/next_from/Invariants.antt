-- `tails::worst::Losses::next_from` meets its contract. The loop's invariant: every loss from i on, up to s, is below the bound.
use lib.ListN.{length, get_or}
use Rattle.tails.specs.InnerContracts.{Skipping}
use Rattle.tails.proofs.worst.Losses.next_from.Given as goal

abbrev pub invariant-loop-s : goal.invariant-loop-s
invariant-loop-s l = Skipping (λ q. get_or l.self.all.now q 0) (length l.self.all.now) l.i l.bound l.s
