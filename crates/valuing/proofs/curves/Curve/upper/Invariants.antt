-- `valuing::curves::Curve::upper` meets its contract. The loop's invariant: the vertex reached does not lie past the one sought.
use Prim.Native.Nat.{◌≤◌}
use Rattle.valuing.specs.Curves.{upper}
use Rattle.valuing.proofs.curves.Curve.upper.Given as goal

abbrev pub invariant-loop-v : goal.invariant-loop-v
invariant-loop-v l = l.v ≤ upper l.self.vertices.now l.self.index l.d
