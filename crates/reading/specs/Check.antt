-- Refusals 1 to 13 of a book.
use Rattle.std.specs.Prelude.{ℕ, List}
use Rattle.numbers.specs.Findings.{Finding}
use Rattle.numbers.specs.Items.{and_then}
use Rattle.reading.specs.Book.{Market, market_of, check_directory}
use Rattle.reading.specs.Parameters.{history, check_parameters}
use Rattle.reading.specs.Vertices.{vertex_count, check_vertices}
use Rattle.reading.specs.Prices.{check_prices}
use Rattle.reading.specs.Bonds.{flow_total, check_bonds}
use Rattle.reading.specs.Flows.{check_flows}

-- "Places are checked downwards.": the parameters to the flows' length
unfoldable pub check_market : Market → Finding
check_market m =
    and_then (check_parameters m.parameters)
    (and_then (check_vertices m.vertices)
    (and_then (check_prices m.prices (vertex_count m.vertices) (history m.parameters))
    (and_then (check_bonds m.vertices m.bonds)
    (check_flows m.flows (flow_total m.bonds)))))

-- 1 to 13
unfoldable pub check_sections : List ℕ → Finding
check_sections book = and_then (check_directory book) (check_market (market_of book))
