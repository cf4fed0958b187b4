-- The loop's invariant: the entries so far are written.
use Rattle.std.proofs.Common.{take}
use Rattle.report.specs.InnerContracts.{Wrote}
use Rattle.report.specs.Text.{fields}
use Rattle.report.proofs.Writer.scenarios.Given as goal

abbrev pub invariant-loop-scenario : goal.invariant-loop-scenario
invariant-loop-scenario l = Wrote (fields (take l.scenario-index l.list)) l.initial.self l.self
