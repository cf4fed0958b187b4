-- The prices and their check (8, 9).
use Rattle.std.specs.Prelude.{ℕ, ◌+◌, ◌*◌, List, eqb, length, if◌then◌else◌}
use Rattle.numbers.specs.Findings.{Finding, Refused}
use Rattle.numbers.specs.Conditions.{within}
use Rattle.numbers.specs.Little.{u32_at}
use Rattle.numbers.specs.Items.{first_failing, every}
use Rattle.reading.specs.Book.{Market}
use Rattle.reading.specs.Parameters.{history}

-- "Prices, LP + hp + sw u32 for each vertex in turn, oldest first, in millionths of par (1..2,000,000)."
-- entry i of the section
abbrev pub price_entry : List ℕ → ℕ → ℕ
price_entry prices i = u32_at prices (4 * i)

-- the price of vertex v at place j of its history of n
abbrev pub price_at : List ℕ → ℕ → ℕ → ℕ → ℕ
price_at prices n v j = price_entry prices (v * n + j)

-- the same of a market
abbrev pub price : Market → ℕ → ℕ → ℕ
price m v j = price_at m.prices (history m.parameters) v j

-- "9 a price", the item being the vertex
unfoldable pub price_code : List ℕ → ℕ → ℕ → ℕ
price_code prices n v = if every (λ j. within 1 2000000 (price_at prices n v j)) n then 0 else 9

-- "Prices: 8 length; 9 a price", for so many vertices with a history of n
unfoldable pub check_prices : List ℕ → ℕ → ℕ → Finding
check_prices prices vertices n = if eqb (length prices) (4 * (vertices * n)) then first_failing (price_code prices n) vertices 0 else Refused 8 0
