-- `schedule::dates::Bond::flow_count` meets its contract.
use native.Mathlib.Omega.{arith}
use Rattle.schedule.proofs.Bonds.{dated_of}
use Rattle.schedule.proofs.Counting.{zero_flows, all_flows}
use Rattle.schedule.proofs.dates.Bond.flow_count.Goals as goal

pub returns-then-self-eq0 : goal.returns-then-self-eq0
returns-then-self-eq0 c = (zero_flows _ _ (dated_of c.args.self) c.if-self-eq0.true, omega arith)

pub returns : goal.returns
returns c = (all_flows _ _ (dated_of c.args.self) c.if-self-eq0.false _ c.dates_after.ensures, c.dates_after.ensures.most)
