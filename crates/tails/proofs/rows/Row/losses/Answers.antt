use mathlib.Core.Path.{ap, ◌∙◌}
use Rattle.numbers.proofs.Buffers.{fill_none, fill_next}
use Rattle.tails.specs.Losses.{loss}
use Rattle.tails.proofs.Sums.{same64}
use Rattle.tails.proofs.rows.Row.losses.Goals as goal

pub loop-s-init : goal.loop-s-init
loop-s-init g c = fill_none _ _ _ c.requires

pub loop-s-preserved : goal.loop-s-preserved
loop-s-preserved g c =
    fill_next _ _ _ c.requires _ _ c.loop-s.invariant _ c.loop-s-test.true
    (c.loss_of.ensures ∙ ap (loss _) (same64 _ c.pnl_at.ensures.small.most ∙ c.pnl_at.ensures.value))
