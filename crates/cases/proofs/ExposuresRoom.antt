-- A book that passed has at most 64 vertices, so its exposures fit the lent buffer.
-- Assumes nothing.
use Prim.Native.Nat.{ℕ, ◌≤◌}
use mathlib.Core.Path.{◌≡◌, refl, sym, ap, ◌∙◌}
use mathlib.Core.List.{List}
use lib.IntN.{ℤ}
use lib.ListN.{length}
use native.Mathlib.Omega.{arith}
use Rattle.numbers.specs.Findings.{Passed}
use Rattle.numbers.specs.Buffers.{filled}
use Rattle.numbers.proofs.Buffers.{filled-length}
use Rattle.reading.specs.Book.{market_of, section_of, vertices_section}
use Rattle.reading.specs.Vertices.{vertex_count}
use Rattle.valuing.specs.Check.{check_valued}
use Rattle.valuing.proofs.Sound.{valued}

-- a book that passed has at most 64 vertices
pub few_vertices : (book : List ℕ) → check_valued book ≡ Passed → vertex_count (market_of book).vertices ≤ 64
few_vertices book e = (valued book e).market.vertices.form.count.1

vertices_section_lem : (book : List ℕ) → (market_of book).vertices ≡ section_of book vertices_section
unfolding market_of
vertices_section_lem book = refl

-- the buffer after it was filled has an entry for each vertex, counted in the section that was cut
pub entries_fit : (book : List ℕ) → check_valued book ≡ Passed
    → (f : ℕ → ℤ) (old out : List ℤ) → length old ≡ 64 → out ≡ filled f (vertex_count (market_of book).vertices) old
    → (s : List ℕ) → s ≡ section_of book vertices_section → vertex_count s ≤ length out
entries_fit book e f old out size is s cut =
    omega (
      arith,
      size,
      few_vertices book e,
      ap vertex_count (cut ∙ sym (vertices_section_lem book)),
      ap length is,
      filled-length f (vertex_count (market_of book).vertices) old (omega (arith, size, few_vertices book e)),
    )
