-- `reading::book::check_directory` meets its contract. At each return the tests that led there say which finding the definition gives.
use mathlib.Core.Path.{sym}
use borrow.Author.Tests.{lt-ltb, le-ltb}
use Rattle.reading.specs.Book.{check_directory}
use Rattle.reading.proofs.book.check_directory.Goals as goal

pub returns-then-book-lt48 : goal.returns-then-book-lt48
unfolding check_directory
returns-then-book-lt48 c = simp (lt-ltb _ _ c.if-book-lt48.true)

pub returns-then-not-tiled : goal.returns-then-not-tiled
unfolding check_directory
returns-then-not-tiled c = simp (le-ltb _ _ c.if-book-lt48.false, sym c.tiled.ensures, c.if-not-tiled.true)

pub returns : goal.returns
unfolding check_directory
returns c = simp (le-ltb _ _ c.if-book-lt48.false, sym c.tiled.ensures, c.if-not-tiled.false)
