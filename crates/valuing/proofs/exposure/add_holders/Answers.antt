-- `valuing::exposure::add_holders` meets its contract. What the rows add of a position's value is the position's exposures.
use Prim.Native.Nat.{◌<◌}
use mathlib.Core.Path.{◌≡◌, ap}
use native.Mathlib.Omega.{arith}
use Rattle.numbers.proofs.Signs.{came}
use Rattle.reading.specs.InnerContracts.{market_in}
use Rattle.valuing.specs.Curves.{Curve, curve_of}
use Rattle.valuing.specs.Positions.{Position, position_count, position_at, value}
use Rattle.valuing.proofs.ByBond.{held_value, held_added, along_start, along_room, along_next, along_further, along_end}
use Rattle.valuing.proofs.Checks.{position_is}
use Rattle.std.proofs.Common.{w64, to_z, of_z}
use Rattle.valuing.proofs.exposure.add_holders.Goals as goal
use Rattle.valuing.proofs.exposure.add_holders.Goals.{After-at, After-value}

-- the position in hand is one, and holds the bond
low : (c : After-at) → c.loop-p.p < position_count c.args.holders.now.positions.now
low c = omega (arith, c.loop-p-test.true, c.position_count.ensures)

-- its value
own : (c : After-value) → to_z w64 (of_z w64 c.value.result) ≡ value c.args.m.now.market.bonds.now (position_at c.args.holders.now.positions.now c.loop-p.p)
own c =
    came w64 _ c.value.type_inv
    (held_value (market_in c.args.m.now.market) _ _ c.loop-p.p (c.loop-p.invariant.next (low (search))) (position_is _ _ c.at.ensures.bond c.at.ensures.nominal) c.at-price.ensures.dirty_price c.value.ensures.value)

pub first_of-p-requires : goal.first_of-p-requires
first_of-p-requires c = omega (arith, c.requires.listed)

pub loop-p-init : goal.loop-p-init
loop-p-init c = along_start _ _ _ _ c.first_of-p.ensures c.requires.held.size

pub value-requires-clause-nominal : goal.value-requires-clause-nominal
value-requires-clause-nominal c =
    rw (ap (λ (r : Position). r.nominal) (position_is c.args.holders.now.positions.now c.loop-p.p c.at.ensures.bond c.at.ensures.nominal))
    (c.requires.valued.positions.position c.loop-p.p (low (search))).nominal_in

pub add-requires-clause-fits : goal.add-requires-clause-fits
unfolding curve_of
add-requires-clause-fits c = rw (ap (λ (k : Curve). k.vertices) c.of-rows.ensures.curve, c.loop-p.auto.out) c.requires.held.size

pub add-requires-clause-room : goal.add-requires-clause-room
unfolding curve_of
add-requires-clause-room c =
    rw (ap (λ (k : Curve). k.vertices) c.of-rows.ensures.curve, own (search)) (along_room _ _ _ _ _ _ c.loop-p.invariant c.requires.valued (low (search)) c.requires.held.room)

pub loop-p-smaller : goal.loop-p-smaller
loop-p-smaller c = along_further _ _ _ _ _ _ c.loop-p.invariant (low (search)) c.next_after-p.ensures

pub loop-p-preserved : goal.loop-p-preserved
loop-p-preserved c =
    along_next _ _ _ _ _ _ c.loop-p.invariant _ (low (search))
    (held_added (market_in c.args.m.now.market) _ _ c.loop-p.p (c.loop-p.invariant.next (low (search))) _ _ c.of-rows.ensures.curve c.of-rows.ensures.stretch (own (search)) c.add.ensures)
    c.next_after-p.ensures

pub returns : goal.returns
returns c = along_end _ _ _ _ _ _ c.loop-p.invariant (omega (arith, c.loop-p-test.false, c.position_count.ensures))
