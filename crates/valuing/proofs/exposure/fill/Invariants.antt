-- `valuing::exposure::fill` meets its contract. The loop's invariant: the buffer holds the exposures of the positions that hold one of the
-- first i bonds.
use mathlib.Core.Path.{◌≡◌}
use Rattle.numbers.specs.Buffers.{filled}
use Rattle.reading.specs.InnerContracts.{market_in}
use Rattle.reading.specs.Vertices.{vertex_count}
use Rattle.valuing.proofs.ByBond.{bonds_up_to}
use Rattle.valuing.proofs.exposure.fill.Given as goal

abbrev pub invariant-loop-i : goal.invariant-loop-i
invariant-loop-i l = l.out ≡ filled (bonds_up_to (market_in l.m.market) l.positions l.i) (vertex_count l.m.market.vertices.now) l.fn.out
