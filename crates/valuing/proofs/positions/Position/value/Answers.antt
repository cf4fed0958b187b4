-- `valuing::positions::Position::value` meets its contract. The product's size is at most 2 · 10^16, and rounding a size gives no larger size.
use mathlib.Core.Path.{ap, ◌∙◌}
use native.Mathlib.Omega.{arith}
use Rattle.numbers.specs.Rounding.{nearest_z}
use Rattle.numbers.proofs.Signs.{came}
use Rattle.valuing.proofs.Checks.{nominal_price, product_held}
use Rattle.valuing.proofs.Sound.{value_in_lem}
use Rattle.std.proofs.Common.{◌≡◌, w64, ℤ, pos, ◌*ℤ◌, to_z, of_z}
use Rattle.valuing.specs.Positions.{value_of}
use Rattle.valuing.proofs.positions.Position.value.Goals as goal

pub nearest_signed-requires : goal.nearest_signed-requires
nearest_signed-requires c = (
  omega arith,
  rw (product_held c.args.self.nominal c.args.price c.requires.nominal c.requires.price c.from.type_inv c.from.ensures)
      (omega (arith, nominal_price c.args.self.nominal c.args.price c.requires.nominal c.requires.price)),
)

pub returns : goal.returns
unfolding value_of
returns c =
    let is : to_z w64 (of_z w64 c.nearest_signed.result) ≡ nearest_z (c.args.self.nominal *ℤ pos c.args.price) 1000000 =
    came w64 _ c.nearest_signed.type_inv
    (c.nearest_signed.ensures
    ∙ ap (λ (z : ℤ). nearest_z z 1000000)
    (product_held c.args.self.nominal c.args.price c.requires.nominal c.requires.price c.from.type_inv c.from.ensures)) in
    record { value = is; bound = rw is (value_in_lem c.args.self.nominal c.args.price c.requires.nominal c.requires.price) }
