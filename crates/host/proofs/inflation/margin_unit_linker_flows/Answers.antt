-- `host::inflation::margin_unit_linker_flows` meets its contract: what an inflation bond comes to, over the C boundary.
use Rattle.host.proofs.HandingFlows.{linkers_ranged}
use Rattle.host.proofs.inflation.margin_unit_linker_flows.Goals as goal

pub flows_code-requires : goal.flows_code-requires
flows_code-requires c = linkers_ranged c.flows.ensures
