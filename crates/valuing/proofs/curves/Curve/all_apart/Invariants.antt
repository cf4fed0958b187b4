-- `valuing::curves::Curve::all_apart` meets its contract. The loop's invariant: the first v vertices' are stored.
use Rattle.numbers.proofs.Buffers.{StoredTo}
use Rattle.valuing.proofs.Apart.{IsApart}
use Rattle.valuing.proofs.curves.Curve.all_apart.Given as goal

abbrev pub invariant-loop-v : goal.invariant-loop-v
invariant-loop-v l = StoredTo (IsApart l.vertices) l.v l.initial.apart l.apart
