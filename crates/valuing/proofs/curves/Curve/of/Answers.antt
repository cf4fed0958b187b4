-- `valuing::curves::Curve::of` meets its contract. The market passed, so prices on the curve can be worked out.
use Rattle.valuing.specs.Curves.{curve_of}
use Rattle.valuing.specs.InnerContracts.{days_apart}
use Rattle.valuing.proofs.curves.Curve.of.Goals as goal

pub invariant_of-result-clause-apart_are : goal.invariant_of-result-clause-apart_are
unfolding days_apart
invariant_of-result-clause-apart_are c = c.requires.apart.days

pub returns : goal.returns
unfolding curve_of
returns c = rw (c.prices.ensures.bytes, c.prices.ensures.history, c.at.ensures.curve)
