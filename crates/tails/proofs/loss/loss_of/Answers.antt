-- `tails::loss::loss_of` meets its contract.
use mathlib.Core.Path.{ap, ◌∙◌}
use lib.IntN.{nat_abs, pos}
use mir.Facts.{to_z-of_z}
use Rattle.numbers.proofs.Signs.{came}
use Rattle.tails.proofs.Losses.{loss_single, loss_double}
use Rattle.std.proofs.Common.{w64}
use Rattle.std.specs.Int.{int_min}
use Rattle.tails.proofs.loss.loss_of.Goals as goal

pub returns-in-Single : goal.returns-in-Single
returns-in-Single c =
    rw c.in-Single.is
    (c.unsigned_abs.ensures.value
    ∙ (ap nat_abs (came w64 _ c.min.type_inv (c.min.ensures.value ∙ ap (λ z. int_min z (pos 0)) (to_z-of_z {w = w64} c.ranges.z)))
    ∙ loss_single c.args.z))

pub returns-in-Double : goal.returns-in-Double
returns-in-Double c =
    rw c.in-Double.is
    (c.unsigned_abs-in-Double.ensures.value ∙ (ap nat_abs (to_z-of_z {w = w64} c.ranges.z) ∙ loss_double c.args.z))
