-- A book of at most 32,768 bytes that passed: both kinds of its returns fit a buffer of 16,384 entries.
-- Assumes nothing.
use Prim.Native.Nat.{ℕ, ◌*◌, ◌≤◌}
use mathlib.Core.List.{List}
use mathlib.Core.Path.{◌≡◌, ap}
use native.Mathlib.Nat.{mul-le-mul}
use native.Mathlib.Omega.{arith}
use lib.IntN.{ℤ}
use lib.ListN.{length}
use Rattle.numbers.specs.Buffers.{filled}
use Rattle.numbers.specs.Findings.{Passed}
use Rattle.numbers.proofs.Buffers.{filled-length}
use Rattle.reading.specs.Book.{market_of, section_of, parameters_section, vertices_section}
use Rattle.reading.specs.Parameters.{lookback, history}
use Rattle.reading.specs.InnerContracts.{Sound}
use Rattle.reading.specs.Vertices.{vertex_count}
use Rattle.reading.proofs.Sections.{directory_section}
use Rattle.reading.proofs.Sound.{book_passed}
use Rattle.scenarios.specs.Buffer.{kind_size, returns_size}
use Rattle.scenarios.specs.Check.{check_book}
use Rattle.scenarios.proofs.Sound.{book_sections, simulated}

-- both kinds of returns fit
pub record Room (book : List ℕ) : Type 0 where
  pub entries : returns_size (market_of book) ≤ 16384

-- each return has a price of 4 bytes in the book
pub room : (book : List ℕ) → check_book book ≡ Passed → length book ≤ 32768 → Room book
unfolding market_of
room book e short =
    let s : Sound (market_of book) = (simulated book e).market in
    let prices = directory_section book (book_passed book (book_sections book e)).0 2 (omega arith) in
    let n = vertex_count (section_of book vertices_section) in
    let p = section_of book parameters_section in
    let fewer : n * lookback p ≤ n * history p = mul-le-mul (omega arith) (omega arith) in
    record { entries = omega (arith, fewer, s.prices.size, prices.size, prices.high) }

-- the buffer after it was filled keeps its entries
pub entries_fit : (book : List ℕ) → Room book → (n : ℕ) → n ≡ kind_size (market_of book)
    → (f : ℕ → ℤ) (old out : List ℤ) → length old ≡ 16384 → out ≡ filled f (returns_size (market_of book)) old → 2 * n ≤ length out
entries_fit book r n count f old out size is =
    omega (arith, r.entries, count, size, ap length is, filled-length f (returns_size (market_of book)) old (omega (arith, r.entries, size)))
