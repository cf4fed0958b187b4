-- `tails::worst::Ranking::keep` meets its contract. It stands here so that a wrong count is refused for itself where `insert` is not
-- proved either (must-fail/lists_and_sums.edit).
use native.Mathlib.Omega.{arith}
use Rattle.tails.proofs.worst.Ranking.keep.Goals as goal

pub invariant_of-self : goal.invariant_of-self
invariant_of-self c = record {
  tail_in = c.args.self.now.tail_in;
  few = omega (arith, c.min-count.ensures);
}
