-- `valuing::curves::Curve::place` meets its contract. The days lie by vertices.
use Rattle.valuing.specs.InnerContracts.{days_left}
use Rattle.valuing.proofs.curves.Curve.place.Goals as goal

pub invariant_of-result-clause-left_is : goal.invariant_of-result-clause-left_is
unfolding days_left
invariant_of-result-clause-left_is c = c.left.ensures
