-- Document 02, W3: every volatility of a book that passed is reached by improvements of a guess.
use Rattle.std.specs.Prelude.{ℕ, ◌≤◌, ◌<◌, List, ◌≡◌}
use Rattle.numbers.specs.Findings.{Passed}
use Rattle.numbers.specs.Root.{root}
use Rattle.numbers.specs.Improvements.{ReachedWithin}
use Rattle.reading.specs.Book.{Market, market_of}
use Rattle.reading.specs.Parameters.{smoothing}
use Rattle.reading.specs.Vertices.{vertex_count}
use Rattle.scenarios.specs.Returns.{return_at, return_count}
use Rattle.scenarios.specs.Volatility.{variance, volatility}
use Rattle.scenarios.specs.Check.{check_book}

-- the variance of return j of vertex v
abbrev pub variance_at : Market → ℕ → ℕ → ℕ
variance_at m v j = variance (smoothing m.parameters) (return_at m v) j

-- and its volatility
abbrev pub volatility_at : Market → ℕ → ℕ → ℕ
volatility_at m v j = volatility (smoothing m.parameters) (return_at m v) j

-- "Each volatility is still the whole root rounded down", and "at most eight improvements, of one division each, reach it"
pub record VolatilityReached (m : Market) (v j : ℕ) : Type 0 where
  pub variance_in : variance_at m v j ≤ 10000000000000000
  pub is_root : volatility_at m v j ≡ root (variance_at m v j)
  pub reached : ReachedWithin 8 (variance_at m v j)

-- of every return, warm-up included, of every vertex of a book that 1 to 21 let pass
abbrev pub VolatilitiesReached : Type 0
VolatilitiesReached = (book : List ℕ) → check_book book ≡ Passed → (v j : ℕ) → v < vertex_count (market_of book).vertices → j < return_count (market_of book).parameters → VolatilityReached (market_of book) v j
