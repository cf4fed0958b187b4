-- The program's buffers: no book of at most 32,768 bytes is refused for them, so that 22 to 24 are never printed.
-- Assumes nothing.
use Prim.Native.Nat.{ℕ, ◌+◌, ◌*◌, ◌≤◌}
use mathlib.Core.List.{List}
use mathlib.Core.Path.{◌≡◌, refl, sym, ◌∙◌}
use native.Mathlib.Nat.{mul-le-mul_left}
use native.Mathlib.Omega.{arith}
use borrow.Author.Tests.{le-leb}
use lib.ListN.{length}
use Rattle.margin.specs.Check.{Lent, check_buffers, check_run}
use Rattle.margin.specs.declared.Figures.{Figures}
use Rattle.margin.specs.Figures.{figures_by, figures_of}
use Rattle.margin.specs.Run.{Refusal, values_of, outcome_for, outcome_to}
use Rattle.numbers.specs.Findings.{Finding, Passed, Refused}
use Rattle.numbers.specs.Items.{and_then}
use Rattle.numbers.proofs.Items.{both_passed}
use Rattle.reading.specs.Book.{market_of, positions_of}
use Rattle.reading.specs.Check.{check_sections}
use Rattle.reading.specs.Parameters.{lookback, history, tail_count}
use Rattle.reading.specs.InnerContracts.{Sound}
use Rattle.reading.specs.Vertices.{vertex_count}
use Rattle.reading.proofs.Sections.{Section, directory_section}
use Rattle.reading.proofs.Sound.{book_passed, sound}
use Rattle.scenarios.specs.Buffer.{returns_size}
use Rattle.scenarios.specs.Check.{check_book}
use Rattle.scenarios.proofs.Refusals.{book_small}
use Rattle.scenarios.proofs.Sound.{returns_passed}
use Rattle.valuing.specs.Check.{check_valued, check_bond_flows}
use Rattle.valuing.specs.Positions.{check_positions}
use Rattle.report.specs.InnerContracts.{listed_by}
use Rattle.report.specs.Printed.{program_lent}
use Rattle.margin.proofs.Outcomes.{outcome_refusal}

-- a book that passed 1 to 21 passed 1 to 13
passed13 : (book : List ℕ) → check_book book ≡ Passed → check_sections book ≡ Passed
unfolding check_valued
passed13 book e =
    (both_passed (check_sections book) (and_then (check_bond_flows (market_of book)) (check_positions (market_of book).bonds (positions_of book)))
    (returns_passed book e).0).0

-- what a book that passed 1 to 21 needs of the buffers
pub record Needs (book : List ℕ) : Type 0 where
  pub exposures : vertex_count (market_of book).vertices ≤ 64
  pub returns : 2 * returns_size (market_of book) + 48 ≤ length book
  pub list : 2 * tail_count (market_of book).parameters ≤ 32

-- the prices are a section of the book, and a vertex has more of them than scenarios
pub passed_needs : (book : List ℕ) → check_book book ≡ Passed → Needs book
unfolding market_of
passed_needs book e =
    let passed = passed13 book e in
    let market : Sound (market_of book) = sound book passed in
    let vertices = vertex_count (market_of book).vertices in
    let longer : lookback (market_of book).parameters ≤ history (market_of book).parameters = omega arith in
    let prices : Section book 2 = directory_section book (book_passed book passed).0 2 (omega arith) in
    record {
      exposures = market.vertices.form.count.1;
      returns = omega (arith, prices.low, prices.high, prices.size, market.prices.size, mul-le-mul_left vertices longer);
      list = omega (arith, market.parameters.tail_in.1);
    }

-- a book of at most 32,768 bytes that passed 1 to 21: 64 exposures, 16,384 returns and a list of 32 are enough
pub buffers_pass : (book : List ℕ) → length book ≤ 32768 → check_book book ≡ Passed → check_buffers (market_of book) program_lent ≡ Passed
unfolding check_buffers
buffers_pass book short e =
    let needs = passed_needs book e in
    rw (le-leb (vertex_count (market_of book).vertices) 64 needs.exposures)
    (rw (le-leb (returns_size (market_of book)) 16384 (omega (arith, needs.returns)))
    (rw (le-leb (2 * tail_count (market_of book).parameters) 32 needs.list) refl))

-- where the second check passes whenever the first does, the first decides
first_decides : (a b : Finding) → (a ≡ Passed → b ≡ Passed) → and_then a b ≡ a
first_decides Passed b passes = passes refl
first_decides (Refused number item) b passes = refl

-- so the buffers never decide
pub never_short : (book : List ℕ) → length book ≤ 32768 → check_run book program_lent ≡ check_book book
unfolding check_run
never_short book short = first_decides (check_book book) (check_buffers (market_of book) program_lent) (buffers_pass book short)

-- the program prints no 22, 23 or 24
pub no_buffer_printed : (book : List ℕ) → length book ≤ 32768 → (number item : ℕ) → outcome_to book program_lent ≡ Refusal number item → number ≤ 21
no_buffer_printed book short number item e =
    (book_small book number item (sym (never_short book short) ∙ outcome_refusal book program_lent number item e)).0.1

-- ---- k

listed_if : (v : Finding) (f : Figures) → (v ≡ Passed → f.k ≤ 16) → listed_by (outcome_for v (values_of f)) ≤ 16
listed_if Passed f few = few refl
listed_if (Refused number item) f few = omega arith

-- no outcome lists more than sixteen scenarios by a kind of returns
pub listed_most : (book : List ℕ) (b : Lent) → listed_by (outcome_to book b) ≤ 16
unfolding outcome_to check_run figures_by
listed_most book b =
    listed_if (check_run book b) (figures_of (market_of book) (positions_of book))
    (λ e. omega (arith, (passed_needs book (both_passed (check_book book) (check_buffers (market_of book) b) e).0).list))
