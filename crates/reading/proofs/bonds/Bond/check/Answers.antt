-- `reading::bonds::Bond::check` meets its contract. At each return the tests that led there say which number the definition gives.
use mathlib.Core.Path.{sym}
use Rattle.reading.proofs.bonds.Bond.check.Goals as goal

pub returns-then-not-known-has_terms : goal.returns-then-not-known-has_terms
returns-then-not-known-has_terms c = simp (sym c.has_terms.ensures, c.if-not-known-has_terms.true)
