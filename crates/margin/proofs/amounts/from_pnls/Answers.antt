-- `margin::amounts::from_pnls` meets its contract.
use mathlib.Core.Path.{◌∙◌}
use Rattle.margin.proofs.OneKind.{kind_charged}
use Rattle.margin.proofs.amounts.from_pnls.Goals as goal

pub returns : goal.returns
returns c =
    kind_charged c.args.measure.now.asked c.requires _ _ c.pnl_tail-whole.ensures
    _ _ _ (c.from.ensures ∙ c.decorrelation.ensures) c.charge_of.ensures c.put_list.ensures
