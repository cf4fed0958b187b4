-- `reading::bonds::check_bonds` meets its contract. Where the form holds, the records fit the section, and the first bad bond decides.
use mathlib.Core.Path.{sym}
use Rattle.reading.specs.Bonds.{check_bonds}
use Rattle.reading.proofs.bonds.check_bonds.Goals as goal

pub returns-then-not-whole : goal.returns-then-not-whole
unfolding check_bonds
returns-then-not-whole c = simp (sym c.whole.ensures, c.if-not-whole.true)

pub returns : goal.returns
unfolding check_bonds
returns c = simp (sym c.whole.ensures, c.if-not-whole.false) (rw (← c.bond_count.ensures) c.check_each.ensures)
