-- `tails::worst::Losses::worst_from` meets its contract. The loop's invariant: the k worst of the scenarios so far that reach the floor,
-- and the next that is kept; k stays.
use mathlib.Core.Path.{◌≡◌}
use Prim.Native.Nat.{◌-◌}
use lib.ListN.{length, get_or}
use Rattle.tails.specs.InnerContracts.{losses_of, scenarios_of}
use Rattle.tails.proofs.Keeping.{Passing}
use Rattle.tails.proofs.worst.Losses.worst_from.Given as goal

abbrev pub invariant-loop-i : goal.invariant-loop-i
invariant-loop-i l = (l.ranking.k ≡ l.k) × Passing (λ s. get_or l.self.all.now s 0) l.k l.floor (length l.self.all.now) l.i (losses_of l.ranking.worst) (scenarios_of l.ranking.worst) l.ranking.count

abbrev pub decreases-loop-i : goal.decreases-loop-i
decreases-loop-i l = length l.self.all.now - l.i
