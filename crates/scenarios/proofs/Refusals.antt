-- What this layer refuses is small: numbers up to 21, and items below 4,096.
-- Assumes nothing.
use Prim.Native.Nat.{ℕ, ◌≤◌}
use mathlib.Core.List.{List}
use native.Mathlib.Omega.{arith}
use Rattle.numbers.proofs.Refusals.{Small, small_then, small_failing, small_more, code_if}
use Rattle.reading.specs.Book.{Market, market_of}
use Rattle.reading.specs.Vertices.{vertex_count}
use Rattle.valuing.specs.Check.{check_valued}
use Rattle.valuing.proofs.Refusals.{valued_small}
use Rattle.valuing.proofs.Sound.{valued}
use Rattle.scenarios.specs.Check.{series_good, returns_code, check_returns, check_book}
use Rattle.scenarios.specs.Returns.{return_at}

-- 21, of at most 4,096 vertices
pub returns_small : (m : Market) → vertex_count m.vertices ≤ 4096 → Small 21 (check_returns m)
unfolding check_returns returns_code
returns_small m few =
    small_failing (returns_code m) (vertex_count m.vertices) few
    (λ v. code_if (series_good m.parameters (return_at m v)) 0 21 (omega arith) (omega arith))

-- 1 to 21: the returns' items are vertices that passed
pub book_small : (book : List ℕ) → Small 21 (check_book book)
unfolding check_book
book_small book =
    small_then (check_valued book) (check_returns (market_of book)) (small_more 21 (omega arith) (valued_small book))
    (λ passed. returns_small (market_of book) (omega (arith, (valued book passed).market.vertices.form.count.1)))
