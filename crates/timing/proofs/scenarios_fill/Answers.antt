-- What is refused says so. It stands here so that a wrong answer is refused for itself where `can_fill` is not proved either
-- (must-fail/calls_of_the_benchmarks.edit, must-fail/calls_that_refuse.edit).
use Rattle.std.proofs.Common.{rules}
use Rattle.timing.proofs.scenarios_fill.Goals as goal

pub returns-then-not-can_fill-clause-value : goal.returns-then-not-can_fill-clause-value
returns-then-not-can_fill-clause-value c = search rules
