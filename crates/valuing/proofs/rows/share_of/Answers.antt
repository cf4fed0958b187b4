-- `valuing::rows::share_of` meets its contract. What lies between the floors gets the value's sign, and is the share of a flow whose
-- floors they are.
use mathlib.Core.Path.{ap, ◌∙◌}
use mir.Facts.{to_z-of_z}
use Rattle.numbers.proofs.Signs.{came}
use Rattle.numbers.specs.Rounding.{negative, with_sign}
use Rattle.valuing.proofs.Adding.{share_is}
use Rattle.std.proofs.Common.{◌-◌, w64, ℤ}
use Rattle.valuing.proofs.rows.share_of.Goals as goal

pub returns-clause-between : goal.returns-clause-between
returns-clause-between c =
    came w64 _ c.with_sign_of.type_inv
    (c.with_sign_of.ensures ∙ ap (λ (z : ℤ). with_sign (negative z) (c.args.next - c.args.floor)) (to_z-of_z {w = w64} c.ranges.value))

pub returns-clause-share : goal.returns-clause-share
returns-clause-share c = λ curve stretch j floor-is next_is.
    came w64 _ c.with_sign_of.type_inv
    (share_is curve stretch c.args.value j _ _ floor-is next_is _ _ (ap negative (to_z-of_z {w = w64} c.ranges.value)) c.with_sign_of.ensures)
