-- A loss below the bound is passed over. It stands here so that a wrong comparison is refused for itself where `four_below` is not
-- proved either (must-fail/ranking_and_ties.edit).
use Rattle.std.proofs.Common.{rules}
use Rattle.tails.proofs.worst.Losses.next_from.Goals as goal

pub loop-s-preserved : goal.loop-s-preserved
loop-s-preserved c = search rules
