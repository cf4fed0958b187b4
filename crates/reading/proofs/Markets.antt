-- Laws of a market that was cut from a book.
-- Assumes nothing.
use Prim.Native.Nat.{ℕ}
use mathlib.Core.Path.{◌≡◌, ap, ◌∙◌}
use Rattle.reading.specs.Book.{Market}
use Rattle.reading.specs.Vertices.{vertex_count}

-- markets that are the same have the same parameters
pub same_parameters : {m n : Market} → m ≡ n → m.parameters ≡ n.parameters
same_parameters is = ap (λ (q : Market). q.parameters) is

-- and as many vertices
pub same_vertices : {m n : Market} {count : ℕ} → count ≡ vertex_count m.vertices → m ≡ n → count ≡ vertex_count n.vertices
same_vertices count is = count ∙ ap (λ (q : Market). vertex_count q.vertices) is
