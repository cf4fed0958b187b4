-- `valuing::curves::Place::worth` meets its contract. Amount and price are small, so the product fits, and so does what it is worth.
use Rattle.valuing.specs.Split.{worth_of}
use Rattle.valuing.proofs.curves.Place.worth.Goals as goal

pub returns : goal.returns
unfolding worth_of
returns c = rw (c.from.ensures, c.from-2.ensures, c.price.ensures.value)
