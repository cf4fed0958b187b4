-- `reading::vertices::check_vertices` meets its contract. Where the form holds, the records fit the section, and the first bad vertex decides.
use mathlib.Core.Path.{sym}
use Rattle.reading.specs.Vertices.{check_vertices}
use Rattle.reading.proofs.vertices.check_vertices.Goals as goal

pub returns-then-not-whole : goal.returns-then-not-whole
unfolding check_vertices
returns-then-not-whole c = simp (sym c.whole.ensures, c.if-not-whole.true)

pub returns : goal.returns
unfolding check_vertices
returns c = simp (sym c.whole.ensures, c.if-not-whole.false) (rw (← c.vertex_count.ensures) c.check_each.ensures)
