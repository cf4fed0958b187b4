-- `valuing::flows::check_bond_flows` meets its contract. The loop's invariant: what is left from bond i on decides the whole.
use Rattle.numbers.proofs.Items.{Reached}
use Rattle.reading.specs.Bonds.{bond_count}
use Rattle.reading.specs.InnerContracts.{market_in}
use Rattle.valuing.proofs.Checks.{bond_code}
use Rattle.valuing.proofs.flows.check_bond_flows.Given as goal

abbrev pub invariant-loop-i : goal.invariant-loop-i
invariant-loop-i l = Reached (bond_code (market_in l.m.market)) (bond_count l.m.market.bonds.now) l.i
