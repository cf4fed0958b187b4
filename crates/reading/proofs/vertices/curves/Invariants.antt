-- `reading::vertices::curves` meets its contract. The loop's invariant: the table says which curves the first v vertices have.
use mathlib.Core.Path.{◌≡◌}
use Rattle.numbers.specs.Buffers.{table}
use Rattle.reading.proofs.Checks.{seen_below}
use Rattle.reading.proofs.vertices.curves.Given as goal

abbrev pub invariant-loop-v : goal.invariant-loop-v
invariant-loop-v l = l.seen ≡ table (seen_below l.vertices l.v) 256 0
