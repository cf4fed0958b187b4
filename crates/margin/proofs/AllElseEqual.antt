-- Two books with all but positions equal: they have the same market, and the other passes every place that it shares with the first.
-- Assumes nothing.
use Prim.Native.Nat.{ℕ, suc, ◌+◌, ◌*◌, ◌≤◌}
use mathlib.Core.List.{List}
use mathlib.Core.Path.{◌≡◌, sym, ap, ◌∙◌}
use native.Mathlib.Omega.{arith}
use lib.ListN.{length}
use Rattle.numbers.specs.Findings.{Passed}
use Rattle.numbers.specs.Buffers.{part_of}
use Rattle.numbers.specs.Items.{and_then}
use Rattle.numbers.proofs.Buffers.{part_same}
use Rattle.numbers.proofs.Items.{both_passed}
use Rattle.numbers.proofs.Little.{Alike, u32_alike}
use Rattle.reading.specs.Book.{market_of, positions_of, section_offset, section_length, section_end, section_of, check_directory, positions_section}
use Rattle.reading.specs.Check.{check_market, check_sections}
use Rattle.reading.proofs.Sections.{Tiled, directory_tiled, tiled_passed, section_before, section_part}
use Rattle.reading.proofs.Sound.{book_passed}
use Rattle.valuing.specs.Check.{check_bond_flows, check_valued}
use Rattle.valuing.specs.Positions.{check_positions}
use Rattle.scenarios.specs.Check.{check_returns, check_book}
use Rattle.scenarios.proofs.Sound.{returns_passed}
use Rattle.margin.specs.Check.{Lent, check_buffers, check_run}
use Rattle.margin.specs.Demands.{AllElseEqual, Whole, Enough}

-- ---- the same directory and the same market

module _ (book other : List ℕ) (same : AllElseEqual book other) where
  -- the four bytes at `at`, all before the sixth length
  directory_same : (at : ℕ) → at + 4 ≤ 44 → Alike other at book at 4
  directory_same at low i small = same.pairs (at + i) (omega arith)

  -- the same offset of each section
  pub offset_same : (j : ℕ) → j ≤ 5 → section_offset other j ≡ section_offset book j
  offset_same j low = u32_alike other (8 * j) book (8 * j) (directory_same (8 * j) (omega arith))

  -- the same length of each but the positions
  pub length_same : (j : ℕ) → j ≤ 4 → section_length other j ≡ section_length book j
  length_same j low = u32_alike other (8 * j + 4) book (8 * j + 4) (directory_same (8 * j + 4) (omega arith))

  -- the book is tiled
  module _ (t : Tiled book) where
    -- where a section follows the one before, it does so in the other
    joined_same : (j : ℕ) → j ≤ 4 → section_offset book (suc j) ≡ section_end book j → section_offset other (suc j) ≡ section_end other j
    joined_same j low joins = omega (arith, offset_same (suc j) (omega arith), offset_same j (omega arith), length_same j low)

    -- the other is tiled too, where its sixth section ends at its end
    pub tiled_same : section_end other positions_section ≡ length other → Tiled other
    tiled_same ends =
        record {
          long = omega (arith, offset_same 5 (omega arith), (section_before book t 4 (omega arith)).0);
          first = offset_same 0 (omega arith) ∙ t.first;
          second = joined_same 0 (omega arith) t.second;
          third = joined_same 1 (omega arith) t.third;
          fourth = joined_same 2 (omega arith) t.fourth;
          fifth = joined_same 3 (omega arith) t.fifth;
          sixth = joined_same 4 (omega arith) t.sixth;
          last = ends;
        }

    -- and so is the other
    module _ (u : Tiled other) where
      -- each section but the positions holds the same bytes
      pub section_same : (j : ℕ) → j ≤ 4 → section_of other j ≡ section_of book j
      section_same j low =
          let before = section_before book t j low in
          let start = section_offset book j in
          let size = section_length book j in
          let o = offset_same j (omega arith) in
          let l = length_same j low in
          let o5 = offset_same 5 (omega arith) in
          section_part other u.long j
          ∙ (ap (λ (a : ℕ). part_of other a (section_length other j)) o
          ∙ (ap (λ (n : ℕ). part_of other start n) l
          ∙ (part_same 0 other book start size (omega arith) (omega arith) (λ i above below. same.sections i (omega arith) (omega arith))
          ∙ sym (section_part book t.long j))))

      -- so the markets are the same
      pub market_same : market_of other ≡ market_of book
      unfolding market_of
      market_same =
          rw (
            section_same 0 (omega arith),
            section_same 1 (omega arith),
            section_same 2 (omega arith),
            section_same 3 (omega arith),
            section_same 4 (omega arith),
          )

-- ---- the places of a book

-- what 1 to 21 ask, place by place: of the directory, of the market and of the positions
pub record Places (book : List ℕ) : Type 0 where
  pub directory : check_directory book ≡ Passed
  pub market : check_market (market_of book) ≡ Passed
  pub flows : check_bond_flows (market_of book) ≡ Passed
  pub positions : check_positions (market_of book).bonds (positions_of book) ≡ Passed
  pub returns : check_returns (market_of book) ≡ Passed

module _ (book : List ℕ) where
  -- a book that passed 1 to 21 passed each place
  pub places : check_book book ≡ Passed → Places book
  unfolding check_valued
  places e =
      let m = market_of book in
      let h1 = returns_passed book e in
      let h2 = both_passed (check_sections book) (and_then (check_bond_flows m) (check_positions m.bonds (positions_of book))) h1.0 in
      let h3 = both_passed (check_bond_flows m) (check_positions m.bonds (positions_of book)) h2.1 in
      let h4 = book_passed book h2.0 in
      record { directory = h4.0; market = h4.1; flows = h3.0; positions = h3.1; returns = h1.1 }

  -- a book that passes each place passes 1 to 21
  pub places_pass : Places book → check_book book ≡ Passed
  unfolding check_sections check_valued check_book
  places_pass p = rw (p.directory, p.market, p.flows, p.positions, p.returns)

  -- a book that passed 1 to 24: it passed 1 to 21, and the buffers are enough
  pub buffers_passed : (b : Lent) → check_run book b ≡ Passed → (check_book book ≡ Passed) × Enough book b
  unfolding check_run
  buffers_passed b e = both_passed (check_book book) (check_buffers (market_of book) b) e

  -- the other way round
  pub buffers_pass : (b : Lent) → check_book book ≡ Passed → Enough book b → check_run book b ≡ Passed
  unfolding check_run
  buffers_pass b e enough = rw (e, enough)

-- ---- the other book

-- a book that passed 1 to 21, and another with all but positions equal
module _ (book other : List ℕ) (e : check_book book ≡ Passed) (same : AllElseEqual book other) where
  -- the other passed 1 to 21 as well: it has the same market
  pub market_of_passed : check_book other ≡ Passed → market_of other ≡ market_of book
  market_of_passed passed =
      market_same book other same (directory_tiled book (places book e).directory) (directory_tiled other (places other passed).directory)

  -- the other is whole
  module _ (whole : Whole other) where
    -- its directory passes
    pub directory_pass : check_directory other ≡ Passed
    directory_pass = tiled_passed other (tiled_same book other same (directory_tiled book (places book e).directory) whole.ends)

    -- it has the same market
    pub market_of_whole : market_of other ≡ market_of book
    market_of_whole =
        market_same book other same (directory_tiled book (places book e).directory) (directory_tiled other directory_pass)

    -- its positions pass: it passes 1 to 21
    pub other_passed : check_positions (market_of book).bonds (positions_of other) ≡ Passed → check_book other ≡ Passed
    other_passed positions =
        let p = places book e in
        places_pass other
        (record {
          directory = directory_pass;
          market = rw market_of_whole p.market;
          flows = rw market_of_whole p.flows;
          positions = rw market_of_whole positions;
          returns = rw market_of_whole p.returns;
        })
