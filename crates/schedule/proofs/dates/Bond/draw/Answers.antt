-- `schedule::dates::Bond::draw` meets its contract: refusal 27, or the flows.
use Rattle.schedule.proofs.Bonds.{dated_of}
use Rattle.schedule.proofs.Drawing.{refusal_drawn, room_refused, flows_drawn}
use Rattle.schedule.proofs.dates.Bond.draw.Goals as goal

pub returns-then-count-out : goal.returns-then-count-out
returns-then-count-out c = refusal_drawn _ _ _ _ (room_refused _ _ (dated_of c.args.self) _ _ c.flow_count-count.ensures.0 c.if-count-out.true)

pub returns : goal.returns
returns c = flows_drawn _ _ (dated_of c.args.self) _ _ _ c.flow_count-count.ensures.0 c.if-count-out.false c.put_flows.ensures
