-- `valuing::curves::Place::apart` meets its contract. The vertex is one of the curve's.
use Rattle.valuing.proofs.Checks.{held_apart}
use Rattle.valuing.proofs.curves.Place.apart.Goals as goal

pub returns : goal.returns
returns c = (held_apart c.args.self.now.curve.now).days _ c.args.self.now.is_vertex _
