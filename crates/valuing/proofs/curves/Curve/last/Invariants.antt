-- `valuing::curves::Curve::last` meets its contract. The loop's invariant: the last vertex of the curve is the last one below v.
use mathlib.Core.Path.{◌≡◌}
use Rattle.valuing.specs.Curves.{last_of}
use Rattle.valuing.proofs.Pricing.{last_below}
use Rattle.valuing.proofs.curves.Curve.last.Given as goal

abbrev pub invariant-loop-v : goal.invariant-loop-v
invariant-loop-v l = last_below l.self.vertices.now l.self.index l.v ≡ last_of l.self.vertices.now l.self.index
