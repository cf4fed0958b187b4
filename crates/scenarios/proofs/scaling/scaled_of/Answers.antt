-- `scenarios::scaling::scaled_of` meets its contract. The weighted return has a size of at most 2 · 10^14.
use mathlib.Core.Path.{ap, ◌∙◌}
use native.Mathlib.Omega.{arith}
use mir.Facts.{to_z_pos, to_z-of_z}
use Rattle.numbers.specs.Rounding.{nearest_z}
use Rattle.numbers.proofs.Signs.{came, size_fits}
use Rattle.scenarios.proofs.Volatilities.{weighted_in, scaled_none, scaled_some}
use Rattle.std.proofs.Common.{◌≡◌, ◌+◌, ◌*◌, w64, ℤ, pos, ◌*ℤ◌, to_z, of_z}
use Rattle.scenarios.proofs.scaling.scaled_of.Goals as goal

pub returns-then-own-eq0 : goal.returns-then-own-eq0
returns-then-own-eq0 c = c.of.ensures ∙ scaled_none c.args.r.0 c.args.newest c.args.own c.if-own-eq0.true

pub returns-else-own-eq0 : goal.returns-else-own-eq0
returns-else-own-eq0 c =
    let weighted : to_z w64 (of_z w64 c.args.r.0) *ℤ to_z w64 (c.args.newest + c.args.own) ≡ c.args.r.0 *ℤ pos (c.args.newest + c.args.own) =
    rw (
      to_z-of_z {w = w64} (size_fits w64 c.args.r.0 (omega (arith, c.requires.0))),
      to_z_pos w64
          {n = c.args.newest + c.args.own}
          (omega (arith, c.requires.1, c.requires.2)),
    ) in
    c.of-else-own-eq0.ensures ∙ came w64 _ c.nearest_signed.type_inv (c.nearest_signed.ensures
    ∙ (ap (λ (z : ℤ). nearest_z z (2 * c.args.own))
    (to_z-of_z {w = w64} (rw weighted (size_fits w64 _ (omega (
      arith,
      weighted_in c.args.r.0 c.args.newest
          c.args.own c.requires.0 c.requires.1
          c.requires.2,
    )))) ∙ weighted)
    ∙ scaled_some c.args.r.0 c.args.newest
    c.args.own c.if-own-eq0.false))
