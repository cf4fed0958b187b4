-- The returns of a vertex.
use Rattle.std.specs.Prelude.{ℕ, ◌+◌, Bool, List, leb, ℤ, pos, nat_abs, ◌-ℤ◌, ◌*ℤ◌}
use Rattle.numbers.specs.Rounding.{nearest_z}
use Rattle.reading.specs.Book.{Market}
use Rattle.reading.specs.Parameters.{lookback, holding_period, warm_up}
use Rattle.reading.specs.Prices.{price}

-- "A return is the nearest of (price − earlier price) × 1,000,000 / earlier price", with halves away from zero
unfoldable pub return_of : ℕ → ℕ → ℤ
return_of earlier later = nearest_z ((pos later -ℤ pos earlier) *ℤ pos 1000000) earlier

-- "the earlier price standing hp entries before": return j of a price path, oldest first
unfoldable pub return_from : (ℕ → ℕ) → ℕ → ℕ → ℤ
return_from prices hp j = return_of (prices j) (prices (j + hp))

-- return j of vertex v
abbrev pub return_at : Market → ℕ → ℕ → ℤ
return_at m v j = return_from (price m v) (holding_period m.parameters) j

-- "there are LP + sw a vertex"
abbrev pub return_count : List ℕ → ℕ
return_count parameters = lookback parameters + warm_up parameters

-- "lies in −1,000,000..1,000,000"
abbrev pub in_range : ℤ → Bool
in_range z = leb (nat_abs z) 1000000
