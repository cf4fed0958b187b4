-- What `timing::roots_of` says. It stands here so that a wrong answer is refused for itself where `fill_roots` is not proved either
-- (must-fail/roots.edit).
use Rattle.std.proofs.Common.{rules}
use Rattle.timing.proofs.roots_of.Goals as goal

pub returns-clause-value : goal.returns-clause-value
returns-clause-value c = search rules

pub returns-then-values-out-clause-value : goal.returns-then-values-out-clause-value
returns-then-values-out-clause-value c = search rules
