-- `margin::kind::charge` meets its contract.
use native.Mathlib.Omega.{arith}
use Rattle.margin.proofs.OneKind.{scratch_summed, scratch_done}
use Rattle.margin.proofs.kind.charge.Goals as goal

pub from_pnls-requires : goal.from_pnls-requires
from_pnls-requires g c =
    scratch_summed c.args.rows.now.are c.args.measure.now.asked c.requires _ (omega arith) _ _ c.pnls.ensures _ c.undiversified-alone.ensures

pub returns : goal.returns
returns g c =
    scratch_done c.args.rows.now.are c.args.measure.now.asked c.requires _ (omega arith) _ _ c.pnls.ensures _ c.undiversified-alone.ensures
    _ _ c.from_pnls.ensures
