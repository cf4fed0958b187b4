use mathlib.Core.Path.{refl, ap, ◌∙◌}
use Rattle.numbers.proofs.Signs.{came}
use Rattle.tails.specs.Losses.{loss}
use Rattle.numbers.proofs.Buffers.{fill_none, fill_next}
use Rattle.std.proofs.Common.{w64}
use Rattle.tails.proofs.loss.losses.Goals as goal

pub loop-s-init : goal.loop-s-init
loop-s-init c = fill_none _ _ _ c.requires.fits

pub loop-s-preserved : goal.loop-s-preserved
loop-s-preserved c =
    fill_next _ _ _ c.requires.fits _ _ c.loop-s.invariant _
    c.loop-s-test.true (c.loss_of.ensures ∙ ap (loss _) (came w64 _ c.loss_of-arg-1.given refl))
