-- `valuing::exposure::fill` meets its contract. The exposures of the positions that hold each bond total those of all positions.
use mathlib.Core.Path.{◌∙◌}
use native.Mathlib.Omega.{arith}
use Rattle.std.proofs.lemmas.List.{get_or-replicate}
use Rattle.valuing.proofs.ByBond.{bond_at, bonds_start, bonds_room, bonds_next, bonds_skip, bonds_end}
use Rattle.valuing.proofs.exposure.fill.Goals as goal
use Rattle.valuing.proofs.exposure.fill.Goals.{then-first_of-n, else-first_of-n}

pub of-holders-requires-clause-known : goal.of-holders-requires-clause-known
of-holders-requires-clause-known c p low =
    rw (← bond_at c.args.positions.now p) (omega (arith, (c.requires.valued.positions.position p low).bond_is, c.requires.valued.market.bonds.form.count.1))

pub of-holders-requires-clause-none : goal.of-holders-requires-clause-none
of-holders-requires-clause-none c i low = get_or-replicate 1024 i c.position_count-n.result 0 low ∙ c.position_count-n.ensures

pub loop-i-init : goal.loop-i-init
loop-i-init c = bonds_start _ _ c.requires.valued _ _ (rw (← c.vertex_count.ensures) c.clear.ensures)

pub add_holders-requires-clause-held : goal.add_holders-requires-clause-held
add_holders-requires-clause-held c = rw c.of-holders.ensures.positions (bonds_room _ _ c.requires.valued c.loop-i.i _ _ c.loop-i.invariant (omega (arith, c.bond_count-i-end.ensures, c.loop-i-test.true)) c.requires.fits)

pub loop-i-preserved : goal.loop-i-preserved
loop-i-preserved c =
    elim c.if-first_of-n.branch [
      | then-first_of-n w ↦ rw w.out-is (bonds_next _ _ c.requires.valued c.loop-i.i _ _ c.loop-i.invariant _ (rw (← c.of-holders.ensures.positions) w.add_holders.ensures))
      | else-first_of-n w ↦ rw w.out-is (bonds_skip _ _ c.requires.valued c.loop-i.i _ _ c.loop-i.invariant (rw (← c.position_count-n.ensures, ← c.of-holders.ensures.positions, ← c.first_of.ensures) w.if-first_of-n.false))
    ]

pub returns : goal.returns
returns c = bonds_end _ _ c.requires.valued _ _ _ c.loop-i.invariant (omega (arith, c.bond_count-i-end.ensures, c.loop-i-test.false, c.loop-i.auto.i-end))
