-- `timing::can_rank` meets its contract. It stands here so that a wrong bound is refused for itself where `losses_good` is not proved
-- either (must-fail/calls_of_the_benchmarks.edit).
use Rattle.std.proofs.Common.{rules}
use Rattle.timing.proofs.can_rank.Goals as goal

pub returns : goal.returns
returns c = search rules
