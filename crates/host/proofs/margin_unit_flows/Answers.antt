-- `host::margin_unit_flows` meets its contract: what a bond's terms come to, over the C boundary.
use Rattle.host.proofs.HandingFlows.{flows_ranged}
use Rattle.host.proofs.margin_unit_flows.Goals as goal

pub flows_code-requires : goal.flows_code-requires
flows_code-requires c = flows_ranged c.flows.ensures
