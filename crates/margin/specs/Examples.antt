-- The checked examples that are starred, in one statement, and the printed book without its position.
use Rattle.std.specs.Prelude.{ℕ, ◌≤◌, List, [], ◌∷◌, ◌≡◌}
use Rattle.reading.specs.Book.{market_of, positions_of}
use Rattle.reading.specs.Examples.{TailExamples}
use Rattle.valuing.specs.Examples.{ValuingExamples, printed_book, PrintedExposures}
use Rattle.scenarios.specs.Examples.{ReturnExample, PrintedReturns}
use Rattle.margin.specs.Check.{lent}
use Rattle.margin.specs.NoTrades.{NoPositions}
use Rattle.margin.specs.Rebuilt.{with_positions}
use Rattle.margin.specs.Run.{Values, outcome_to, list_in}

-- "tail 1", "unscaled 27791450000 29558290000 353368000 28144818000", "scaled 26729614530 28469510220 347979138 27077593668",
-- "margin 28145"
abbrev pub printed_values : List ℕ
printed_values =
    1
    ∷ 27791450000 ∷ 29558290000 ∷ 353368000 ∷ 28144818000
    ∷ 26729614530 ∷ 28469510220 ∷ 347979138 ∷ 27077593668
    ∷ 28145 ∷ []

-- the printed book is accepted with every buffer of 2 exposures, 16 returns and 2 listed scenarios or more, and comes to these
-- values; each kind lists scenario 0, and later entries keep their contents
pub record PrintedFigures : Type 0 where
  pub values : (exposures returns list : ℕ) → 2 ≤ exposures → 16 ≤ returns → 2 ≤ list → outcome_to printed_book (lent exposures returns list) ≡ Values printed_values
  pub lists : (a b : ℕ) (old : List ℕ) → list_in (market_of printed_book) (positions_of printed_book) (a ∷ b ∷ old) ≡ 0 ∷ 0 ∷ old

-- "★ proved, as a group": k; return; value, share and price; the printed book's exposures, returns and figures
pub record StarredExamples : Type 0 where
  pub tails : TailExamples
  pub returns : ReturnExample
  pub values : ValuingExamples
  pub printed_exposures : PrintedExposures
  pub printed_returns : PrintedReturns
  pub printed : PrintedFigures

-- the printed book without its position
abbrev pub emptied_book : List ℕ
emptied_book = with_positions printed_book []

-- W2: "the checked example "No position is 17" gives way to this": it is accepted with the same buffers, all its values but k are 0, and
-- each kind lists scenario 0
pub record EmptiedFigures : Type 0 where
  pub empty : NoPositions emptied_book
  pub values : (exposures returns list : ℕ) → 2 ≤ exposures → 16 ≤ returns → 2 ≤ list
      → outcome_to emptied_book (lent exposures returns list) ≡ Values (1 ∷ 0 ∷ 0 ∷ 0 ∷ 0 ∷ 0 ∷ 0 ∷ 0 ∷ 0 ∷ 0 ∷ [])
  pub lists : (a b : ℕ) (old : List ℕ) → list_in (market_of emptied_book) (positions_of emptied_book) (a ∷ b ∷ old) ≡ 0 ∷ 0 ∷ old
