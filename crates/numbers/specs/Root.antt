-- The whole square root.
use Rattle.std.specs.Prelude.{ℕ, ◌+◌, ◌*◌, ◌≤◌, ◌<◌, leb}
use Rattle.numbers.specs.Items.{last_where}

-- r is the whole square root of n, rounded down
pub record IsRoot (n r : ℕ) : Type 0 where
  pub low : r * r ≤ n
  pub high : n < (r + 1) * (r + 1)

-- the whole square root of n, rounded down: the last number whose square is at most n
unfoldable pub root : ℕ → ℕ
root n = last_where (λ r. leb (r * r) n) (n + 1)
