-- A book that passed 1 to 21 keeps the ranges of its returns and of its scenarios.
-- Assumes nothing.
use Prim.Native.Nat.{ℕ, ◌+◌, ◌≤◌, ◌<◌}
use mathlib.Core.Bool.{true}
use mathlib.Core.List.{List}
use mathlib.Core.Path.{◌≡◌}
use native.Mathlib.Omega.{arith}
use lib.IntN.{ℤ, nat_abs}
use Rattle.numbers.specs.Findings.{Passed}
use Rattle.numbers.proofs.Items.{both, both_passed, each, all_pass}
use Rattle.reading.specs.Book.{Market, market_of}
use Rattle.reading.specs.Parameters.{lookback, warm_up}
use Rattle.reading.specs.Check.{check_sections}
use Rattle.reading.specs.InnerContracts.{Sound}
use Rattle.reading.specs.Vertices.{vertex_count}
use Rattle.reading.proofs.Forms.{good_then}
use Rattle.valuing.specs.Check.{check_valued}
use Rattle.valuing.proofs.Sound.{sections_passed, valued}
use Rattle.scenarios.specs.Check.{returns_in, scaled_in, series_good, returns_code, check_returns, check_book}
use Rattle.scenarios.specs.Returns.{return_at, return_count}
use Rattle.scenarios.specs.Scaled.{unscaled_from, scaled_from}
use Rattle.scenarios.specs.InnerContracts.{Simulated}
use Rattle.scenarios.proofs.Series.{ranges_each}

-- ---- a vertex's series

module _ (p : List ℕ) (r : ℕ → ℤ) (good : series_good p r ≡ true) where
  series_parts : (returns_in p r ≡ true) × (scaled_in p r ≡ true)
  unfolding series_good
  series_parts = both (returns_in p r) (scaled_in p r) good

  -- every return lies in its range
  pub series_return : (j : ℕ) → j < return_count p → nat_abs (r j) ≤ 1000000
  series_return = ranges_each r (return_count p) series_parts.0

  -- so does every unscaled scenario
  pub series_unscaled : (s : ℕ) → s < lookback p → nat_abs (unscaled_from p r s) ≤ 1000000
  unfolding unscaled_from
  series_unscaled s low = series_return (warm_up p + s) (omega arith)

  -- and every scaled scenario
  pub series_scaled : (s : ℕ) → s < lookback p → nat_abs (scaled_from p r s) ≤ 1000000
  series_scaled = ranges_each (scaled_from p r) (lookback p) series_parts.1

-- ---- the vertices

module _ (m : Market) where
  -- the returns passed 21: each vertex's series is good
  pub series_passed : check_returns m ≡ Passed → (v : ℕ) → v < vertex_count m.vertices → series_good m.parameters (return_at m v) ≡ true
  unfolding check_returns returns_code
  series_passed e v low =
      (good_then (series_good m.parameters (return_at m v)) 0 20 (each (returns_code m) (vertex_count m.vertices) 0 e v (omega arith) (omega arith))).0

  -- each vertex's series is good: the returns pass 21
  pub series_pass : ((v : ℕ) → v < vertex_count m.vertices → series_good m.parameters (return_at m v) ≡ true) → check_returns m ≡ Passed
  unfolding check_returns returns_code
  series_pass good = all_pass (returns_code m) (vertex_count m.vertices) 0 (λ v low high. rw (good v (omega arith)))

  -- a sound market that passed 21
  pub simulated_market : Sound m → check_returns m ≡ Passed → Simulated m
  simulated_market sound e =
      record {
        market = sound;
        series = series_passed e;
        return_in = λ v j low small. series_return m.parameters (return_at m v) (series_passed e v low) j small;
        unscaled_in = λ v s low small. series_unscaled m.parameters (return_at m v) (series_passed e v low) s small;
        scaled_in = λ v s low small. series_scaled m.parameters (return_at m v) (series_passed e v low) s small;
      }

-- ---- the book

module _ (book : List ℕ) (e : check_book book ≡ Passed) where
  -- a book that passed 1 to 21 passed 1 to 20, and its returns 21
  pub returns_passed : (check_valued book ≡ Passed) × (check_returns (market_of book) ≡ Passed)
  unfolding check_book
  returns_passed = both_passed (check_valued book) (check_returns (market_of book)) e

  -- of such a book, 1 to 13 passed
  pub book_sections : check_sections book ≡ Passed
  book_sections = sections_passed book returns_passed.0

  -- a book that passed 1 to 21
  pub simulated : Simulated (market_of book)
  simulated = simulated_market (market_of book) (valued book returns_passed.0).market returns_passed.1
