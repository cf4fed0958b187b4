-- `valuing::curves::Place::lower_size` meets its contract. So much is left of the days between the two vertices.
use mathlib.Core.Path.{◌∙◌}
use Rattle.valuing.proofs.Apart.{lower_by_left}
use Rattle.valuing.proofs.Checks.{held_near, held_left}
use Rattle.valuing.proofs.Mapping.{lower_within}
use Rattle.valuing.proofs.curves.Place.lower_size.Goals as goal

pub returns-clause-value : goal.returns-clause-value
returns-clause-value c =
    c.quotient.ensures ∙ rw (c.from.ensures, held_left c.args.self.now, c.apart.ensures) (lower_by_left _ _ _ (held_near c.args.self.now) c.args.size)

pub returns-clause-bound : goal.returns-clause-bound
returns-clause-bound c = rw (returns-clause-value c) (lower_within _ _ _ c.args.size (held_near c.args.self.now))
