-- `cases::inspect::print_vertices` is safe. The loop's invariant: the prices are just those of the vertices' histories.
use Prim.Native.Nat.{◌*◌}
use mathlib.Core.Path.{◌≡◌}
use lib.ListN.{length}
use Rattle.cases.proofs.inspect.print_vertices.Given as goal

abbrev pub invariant-loop-v : goal.invariant-loop-v
invariant-loop-v g l = length l.prices.bytes.now ≡ 4 * (l.v-end * l.prices.history)
