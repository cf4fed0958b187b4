-- `reading::book::Section::of` meets its contract. A book of 48 bytes or more has the pair, and the part is the one that it names.
use native.Mathlib.Nat.{zero-add}
use borrow.Author.Tests.{le-leb, lt-leb}
use Rattle.reading.specs.Book.{section_of}
use Rattle.reading.specs.InnerContracts.{section_start}
use Rattle.reading.proofs.book.Section.of.Goals as goal

pub returns-then-book-lt48 : goal.returns-then-book-lt48
unfolding section_of section_start
returns-then-book-lt48 c = record { has = simp (lt-leb _ _ c.if-book-lt48.true); lies = simp (lt-leb _ _ c.if-book-lt48.true, zero-add) }

pub returns : goal.returns
unfolding section_of section_start
returns c = record {
  has = simp (le-leb _ _ c.if-book-lt48.false) (rw (← c.offset.ensures, ← c.length.ensures) c.part.ensures.has);
  lies = simp (le-leb _ _ c.if-book-lt48.false) (rw (← c.offset.ensures, ← c.length.ensures) c.part.ensures.lies);
}
