-- `valuing::exposures` meets its contract. The market and the positions are those of the book, which are sound since the book passed.
use mathlib.Core.Path.{ap}
use Rattle.valuing.proofs.Sound.{sections_passed, valued}
use Rattle.reading.specs.Book.{Market, positions_of}
use Rattle.valuing.proofs.exposures.Goals as goal

pub of-requires : goal.of-requires
of-requires c = sections_passed _ c.requires.passed

pub fill-requires : goal.fill-requires
unfolding positions_of
fill-requires c = record {
  valued = rw (c.of.ensures, c.of-2.ensures.has) (valued _ c.requires.passed);
  fits = rw (ap (λ (m : Market). m.vertices) c.of.ensures) c.requires.fits;
}

pub returns : goal.returns
unfolding positions_of
returns c = rw (← c.of.ensures, ← c.of-2.ensures.has) c.fill.ensures
