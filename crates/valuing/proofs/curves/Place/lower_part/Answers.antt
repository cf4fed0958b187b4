-- `valuing::curves::Place::lower_part` meets its contract. The lower part of the share's size gets the share's sign.
use mathlib.Core.Path.{ap, ◌∙◌}
use mir.Facts.{to_z-of_z}
use Rattle.numbers.proofs.Signs.{came}
use Rattle.valuing.proofs.Adding.{lower_part_is}
use Rattle.std.proofs.Common.{nat_abs, w64}
use Rattle.numbers.specs.Rounding.{negative}
use Rattle.valuing.proofs.curves.Place.lower_part.Goals as goal

pub returns : goal.returns
returns c =
    came w64 c.with_sign_of.result c.with_sign_of.type_inv
    (lower_part_is _ _ _ c.args.share
    (ap negative (to_z-of_z {w = w64} c.ranges.share))
    (c.unsigned_abs.ensures.value ∙ ap nat_abs (to_z-of_z {w = w64} c.ranges.share))
    c.lower_size.ensures.value
    c.with_sign_of.ensures)
