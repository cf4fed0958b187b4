-- The check of the returns (21), and refusals 1 to 21 of a book.
use Rattle.std.specs.Prelude.{ℕ, Bool, ◌&&◌, List, ℤ, if◌then◌else◌}
use Rattle.numbers.specs.Findings.{Finding}
use Rattle.numbers.specs.Items.{and_then, first_failing, every}
use Rattle.reading.specs.Book.{Market, market_of}
use Rattle.reading.specs.Parameters.{lookback}
use Rattle.reading.specs.Vertices.{vertex_count}
use Rattle.valuing.specs.Check.{check_valued}
use Rattle.scenarios.specs.Returns.{return_at, return_count, in_range}
use Rattle.scenarios.specs.Scaled.{scaled_from}

-- "Every return, warm-up included, .. lies in −1,000,000..1,000,000."
abbrev pub returns_in : List ℕ → (ℕ → ℤ) → Bool
returns_in p r = every (λ j. in_range (r j)) (return_count p)

-- "and every scaled scenario"
abbrev pub scaled_in : List ℕ → (ℕ → ℤ) → Bool
scaled_in p r = every (λ s. in_range (scaled_from p r s)) (lookback p)

-- both, of the returns r 0, r 1, ..
unfoldable pub series_good : List ℕ → (ℕ → ℤ) → Bool
series_good p r = returns_in p r && scaled_in p r

-- "21 a return outside its range", the item being the vertex
unfoldable pub returns_code : Market → ℕ → ℕ
returns_code m v = if series_good m.parameters (return_at m v) then 0 else 21

-- "items go by rising index": the first vertex that fails
unfoldable pub check_returns : Market → Finding
check_returns m = first_failing (returns_code m) (vertex_count m.vertices) 0

-- "Places are checked downwards.": 1 to 20, then the returns
unfoldable pub check_book : List ℕ → Finding
check_book book = and_then (check_valued book) (check_returns (market_of book))
