-- `host::margin_unit_run` meets its contract: what a run comes to, over the C boundary.
use Rattle.host.proofs.Handing.{code_fits, refusal_handed}
use Rattle.host.proofs.margin_unit_run.Goals as goal

pub packed-requires : goal.packed-requires
packed-requires c = code_fits c.run.ensures _ c.in-Err.is

pub returns-in-Err : goal.returns-in-Err
returns-in-Err c = refusal_handed c.run.ensures _ c.in-Err.is _ _ c.packed.ensures
