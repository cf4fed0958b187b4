-- `timing::can_fill` meets its contract. It stands here so that a wrong answer is refused for itself where `needed` is not proved either
-- (must-fail/calls_of_the_benchmarks.edit).
use Rattle.std.proofs.Common.{rules}
use Rattle.timing.proofs.can_fill.Goals as goal

pub returns-then-is_err : goal.returns-then-is_err
returns-then-is_err c = search rules

pub returns : goal.returns
returns c = search rules
