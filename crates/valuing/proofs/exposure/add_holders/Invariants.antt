-- `valuing::exposure::add_holders` meets its contract. The loop's invariant: the positions before p that hold the bond are added, and p is
-- the next.
use Prim.Native.Nat.{◌-◌}
use Rattle.reading.specs.InnerContracts.{market_in}
use Rattle.valuing.specs.Positions.{position_count}
use Rattle.valuing.proofs.ByBond.{Along}
use Rattle.valuing.proofs.exposure.add_holders.Given as goal

abbrev pub invariant-loop-p : goal.invariant-loop-p
invariant-loop-p l = Along (market_in l.m.market) l.positions l.i l.p l.initial.out l.out

abbrev pub decreases-loop-p : goal.decreases-loop-p
decreases-loop-p l = position_count l.positions - l.p
