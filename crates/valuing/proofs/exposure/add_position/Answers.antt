-- `valuing::exposure::add_position` meets its contract. What the rows add of its value is the position's exposures.
use mathlib.Core.Path.{◌≡◌, refl, ap}
use Rattle.numbers.proofs.Signs.{came}
use Rattle.reading.specs.InnerContracts.{market_in}
use Rattle.valuing.specs.Curves.{Curve, curve_of}
use Rattle.valuing.specs.Positions.{value}
use Rattle.valuing.specs.InnerContracts.{position_in}
use Rattle.valuing.proofs.Adding.{position_added}
use Rattle.valuing.proofs.Checks.{value_is}
use Rattle.std.proofs.Common.{w64, to_z, of_z}
use Rattle.valuing.proofs.exposure.add_position.Goals as goal
use Rattle.valuing.proofs.exposure.add_position.Goals.{After-value-value}

-- its value
own : (c : After-value-value) → to_z w64 (of_z w64 c.value-value.result) ≡ value c.args.m.now.market.bonds.now (position_in c.args.own)
own c = came w64 _ c.value-value.type_inv (value_is _ (position_in c.args.own) _ refl c.at.ensures.dirty_price c.value-value.ensures.value)

pub add-requires-clause-fits : goal.add-requires-clause-fits
unfolding curve_of
add-requires-clause-fits c = rw (ap (λ (k : Curve). k.vertices) c.of.ensures.curve) c.requires.size

pub add-requires-clause-room : goal.add-requires-clause-room
unfolding curve_of
add-requires-clause-room c = rw (ap (λ (k : Curve). k.vertices) c.of.ensures.curve, own (search)) c.requires.room

pub returns : goal.returns
returns c = position_added (market_in c.args.m.now.market) (position_in c.args.own) _ _ c.of.ensures.curve c.of.ensures.stretch (own (search)) c.add.ensures
