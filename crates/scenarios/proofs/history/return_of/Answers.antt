-- `scenarios::history::return_of` meets its contract. The change in price times a million has a size of at most 4 · 10^12.
use mathlib.Core.Path.{ap, ◌∙◌}
use native.Mathlib.Omega.{arith}
use mir.Facts.{to_z-of_z}
use Rattle.numbers.specs.Rounding.{nearest_z}
use Rattle.numbers.proofs.Signs.{nat_abs-sub, came, size_fits}
use Rattle.scenarios.proofs.Series.{change_size}
use Rattle.std.proofs.Common.{◌≡◌, pos, w64, ℤ, ◌-ℤ◌, ◌*ℤ◌, to_z, of_z, ap₂}
use Rattle.scenarios.specs.Returns.{return_of}
use Rattle.scenarios.proofs.history.return_of.Goals as goal

pub returns : goal.returns
unfolding return_of
returns c =
    let difference : to_z w64 (of_z w64 c.from.result) -ℤ to_z w64 (of_z w64 c.from-2.result) ≡ pos c.args.later -ℤ pos c.args.earlier =
    ap₂ ◌-ℤ◌ (came w64 _ c.from.type_inv c.from.ensures) (came w64 _ c.from-2.type_inv c.from-2.ensures) in
    let change : to_z w64 (of_z w64 (to_z w64 (of_z w64 c.from.result) -ℤ to_z w64 (of_z w64 c.from-2.result))) *ℤ pos 1000000 ≡ (pos c.args.later -ℤ pos c.args.earlier) *ℤ pos 1000000 =
    ap (λ (z : ℤ). z *ℤ pos 1000000) (to_z-of_z {w = w64} (rw difference (size_fits w64 _ (omega (arith, c.requires.1, c.requires.2, nat_abs-sub c.args.later c.args.earlier)))) ∙ difference) in
    c.of.ensures
    ∙ came w64 _ c.nearest_signed.type_inv
    (c.nearest_signed.ensures ∙ ap₂ nearest_z (to_z-of_z {w = w64} (rw change (size_fits w64 _ (omega (arith, change_size c.args.later c.args.earlier c.requires.2 c.requires.1)))) ∙ change) c.from-3.ensures)
