-- `tails::worst::Losses::skip_fours` meets its contract. The loop's invariant: every loss from i on, up to s, is below the bound.
use Prim.Native.Nat.{◌-◌}
use lib.ListN.{length, get_or}
use Rattle.tails.specs.InnerContracts.{Skipping}
use Rattle.tails.proofs.worst.Losses.skip_fours.Given as goal

abbrev pub invariant-loop-s : goal.invariant-loop-s
invariant-loop-s l = Skipping (λ q. get_or l.self.all.now q 0) (length l.self.all.now) l.i l.bound l.s

abbrev pub decreases-loop-s : goal.decreases-loop-s
decreases-loop-s l = length l.self.all.now - l.s
