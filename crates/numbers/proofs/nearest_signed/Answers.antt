-- `numbers::nearest_signed` meets its contract. Rounding a size gives no larger size, so the sign can be put back.
use mathlib.Core.Path.{ap, ◌∙◌}
use mir.Facts.{to_z-of_z}
use Rattle.numbers.proofs.Signs.{came, rounded_fits, rounded_is}
use Rattle.std.proofs.Common.{nat_abs, w64}
use Rattle.numbers.specs.Rounding.{negative}
use Rattle.numbers.proofs.nearest_signed.Goals as goal

pub with_sign_of-requires : goal.with_sign_of-requires
with_sign_of-requires c = rounded_fits c.args.z c.args.d c.requires.0 c.requires.1 (c.unsigned_abs.ensures.value ∙ ap nat_abs (to_z-of_z c.ranges.z)) c.nearest_of.ensures

pub returns : goal.returns
returns c =
    came w64 c.with_sign_of.result c.with_sign_of.type_inv
    (rounded_is
    c.args.z
    c.args.d
    (ap negative (to_z-of_z c.ranges.z))
    (c.unsigned_abs.ensures.value ∙ ap nat_abs (to_z-of_z c.ranges.z))
    c.nearest_of.ensures
    c.with_sign_of.ensures)
