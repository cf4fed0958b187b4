use native.Mathlib.Omega.{arith}
use Rattle.reading.proofs.Checks.{entries_fit}
use Rattle.cases.proofs.inspect.print_vertices.Goals as goal

pub print_prices-requires : goal.print_prices-requires
print_prices-requires g c = omega (arith, c.loop-v.invariant, entries_fit c.loop-v.v c.vertex_count-v-end.result c.prices-prices.result.history c.loop-v-test.true)
