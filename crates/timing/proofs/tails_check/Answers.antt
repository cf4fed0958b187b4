-- `timing::tails_check` meets its contract. It stands here so that a wrong answer is refused for itself where `can_rank` is not proved
-- either (must-fail/calls_of_the_benchmarks.edit, must-fail/calls_that_refuse.edit).
use Rattle.std.proofs.Common.{rules}
use Rattle.timing.proofs.tails_check.Goals as goal

pub returns : goal.returns
returns c = search rules
