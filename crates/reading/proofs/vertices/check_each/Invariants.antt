-- `reading::vertices::check_each` meets its contract. The loop's invariant: what is left from vertex v on decides the whole.
use Rattle.numbers.proofs.Items.{Reached}
use Rattle.reading.specs.Vertices.{vertex_code}
use Rattle.reading.proofs.vertices.check_each.Given as goal

abbrev pub invariant-loop-v : goal.invariant-loop-v
invariant-loop-v l = Reached (vertex_code l.vertices) l.n l.v
