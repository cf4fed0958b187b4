-- The returns buffer.
use Rattle.std.specs.Prelude.{ℕ, ◌-◌, ◌*◌, ◌/◌, ◌%◌, ltb, ℤ, if◌then◌else◌}
use Rattle.reading.specs.Book.{Market}
use Rattle.reading.specs.Parameters.{lookback}
use Rattle.reading.specs.Vertices.{vertex_count}
use Rattle.scenarios.specs.Scaled.{unscaled, scaled}

-- the entries of one kind: vertices × LP
abbrev pub kind_size : Market → ℕ
kind_size m = vertex_count m.vertices * lookback m.parameters

-- "returns, 2 × vertices × LP i32"
abbrev pub returns_size : Market → ℕ
returns_size m = 2 * kind_size m

-- "all unscaled by vertex then scenario, then scaled likewise": entry i
unfoldable pub returns_entry : Market → ℕ → ℤ
returns_entry m i =
    if ltb i (kind_size m)
    then unscaled m (i / lookback m.parameters) (i % lookback m.parameters)
    else scaled m ((i - kind_size m) / lookback m.parameters) ((i - kind_size m) % lookback m.parameters)
