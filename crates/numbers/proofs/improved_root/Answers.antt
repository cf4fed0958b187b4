-- `numbers::improved_root` meets its contract. The guess can be improved, and the improvement compared.
use mathlib.Core.Path.{◌≡◌, refl, ap, ◌∙◌}
use Rattle.numbers.specs.Improvements.{guess, improvement, improvements}
use Rattle.numbers.proofs.Improvements.{improvable, improved_fits}
use Rattle.numbers.proofs.improved_root.Goals as goal
use Rattle.numbers.proofs.improved_root.Goals.{After-improved-once}

-- the improvement that was made
improved_is : (c : After-improved-once) → c.improved-once.result ≡ improvement c.args.n (guess c.args.n)
improved_is c = c.improved-once.ensures ∙ ap (improvement c.args.n) c.guess-start.ensures

pub improved-once-requires : goal.improved-once-requires
improved-once-requires c = rw c.guess-start.ensures (improvable c.args.n c.requires c.ranges.n.fits)

pub settled-requires : goal.settled-requires
settled-requires c = rw (improved_is c) (improved_fits c.args.n c.requires c.ranges.n.fits)

pub returns : goal.returns
unfolding improvements
returns c = rw (c.settled.ensures, improved_is c.before) refl
