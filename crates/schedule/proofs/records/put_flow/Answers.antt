-- `schedule::records::put_flow` meets its contract: three fields, one after the other.
use Rattle.schedule.proofs.FlowBytes.{record_placed}
use Rattle.std.proofs.Common.{◌*◌}
use Rattle.schedule.proofs.records.put_flow.Goals as goal

pub returns : goal.returns
returns c = record_placed c.args.days c.args.amount (8 * c.args.r) c.args.out.now _ _ _ c.requires
    c.put.ensures c.put-2.ensures c.put-3.ensures
