-- The desk with no trades (W2): what holds of every book without positions, unscaled and scaled.
use Rattle.std.specs.Prelude.{ℕ, ◌*◌, List, [], ◌++◌, ◌≡◌, ℤ, pos, drop, Ok}
use Rattle.margin.specs.declared.Figures.{Figures}
use Rattle.margin.specs.declared.Charge.{Charge}
use Rattle.numbers.specs.Buffers.{table, filled}
use Rattle.numbers.specs.Items.{and_then}
use Rattle.reading.specs.Book.{market_of, positions_of}
use Rattle.reading.specs.Check.{check_sections}
use Rattle.reading.specs.Vertices.{vertex_count}
use Rattle.valuing.specs.Check.{check_bond_flows}
use Rattle.scenarios.specs.Check.{check_returns}
use Rattle.margin.specs.Check.{Lent, check_buffers, check_run}
use Rattle.margin.specs.Run.{Ran}

-- "An empty positions section". (It also reads as empty where its pair leads past the book's end, which 2 refuses)
abbrev pub NoPositions : List ℕ → Type 0
NoPositions book = positions_of book ≡ []

-- "scenarios 0 to k − 1"
abbrev pub first_scenarios : ℕ → List ℕ
first_scenarios k = table (λ s. s) k 0

-- T, U, D and M are 0
pub record NoCharge (charge : Charge) : Type 0 where
  pub tail : charge.tail ≡ 0
  pub undiversified : charge.undiversified ≡ 0
  pub addon : charge.addon ≡ 0
  pub total : charge.total ≡ 0

-- "a book of zero exposures and margin 0, listing scenarios 0 to k − 1": what a run that came to a margin leaves. Later entries keep
-- their contents
pub record NothingHeld (n : ℕ) (exposures : List ℤ) (list : List ℕ) (f : Figures) (exposures' : List ℤ) (list' : List ℕ) : Type 0 where
  pub exposed : exposures' ≡ filled (λ v. pos 0) n exposures
  pub unscaled_charge : NoCharge f.unscaled
  pub scaled_charge : NoCharge f.scaled
  pub euros : f.euros ≡ 0
  pub listed : list' ≡ first_scenarios f.k ++ (first_scenarios f.k ++ drop (2 * f.k) list)

-- "An empty positions section shall mean a book of zero exposures and margin 0": for every book without positions
pub record NoTrades : Type 0 where
  -- it is refused as all its other places are, in their order: 1 to 13, 14 to 16, 21, and 22 to 24
  pub refusals : (book : List ℕ) (b : Lent) → NoPositions book
      → check_run book b
      ≡ and_then (check_sections book) (and_then (check_bond_flows (market_of book)) (and_then (check_returns (market_of book)) (check_buffers (market_of book) b)))
  -- every run of it that comes to a margin
  pub runs : (book : List ℕ) (exposures returns : List ℤ) (list : List ℕ) (f : Figures) (exposures' returns' : List ℤ) (list' : List ℕ)
      → NoPositions book → Ran book exposures returns list (Ok f) exposures' returns' list'
      → NothingHeld (vertex_count (market_of book).vertices) exposures list f exposures' list'
