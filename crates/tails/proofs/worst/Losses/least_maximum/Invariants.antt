-- `tails::worst::Losses::least_maximum` meets its contract. The loop's invariant: the least of the lanes so far.
use mathlib.Core.Path.{◌≡◌}
use Prim.Native.Nat.{◌*◌, ◌/◌}
use lib.ListN.{length, get_or}
use Rattle.tails.specs.InnerContracts.{least_maximum}
use Rattle.tails.proofs.worst.Losses.least_maximum.Given as goal

abbrev pub invariant-loop-four : goal.invariant-loop-four
invariant-loop-four l = l.least ≡ least_maximum (λ s. get_or l.self.all.now s 0) (length l.self.all.now / 16) (4 * l.four)
