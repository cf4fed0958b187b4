-- The check of the flows (14 to 16), and refusals 1 to 20 of a book.
use Rattle.std.specs.Prelude.{ℕ, ◌-◌, Bool, ◌&&◌, List, leb, ltb, eqb, if◌then◌else◌}
use Rattle.numbers.specs.Findings.{Finding}
use Rattle.numbers.specs.Conditions.{within}
use Rattle.numbers.specs.Items.{and_then, first_failing, every, total}
use Rattle.reading.specs.Book.{Market, market_of, positions_of}
use Rattle.reading.specs.Vertices.{vertex_days}
use Rattle.reading.specs.Bonds.{bond_count}
use Rattle.reading.specs.Flows.{flow_days, flow_zero, flow_amount}
use Rattle.reading.specs.Check.{check_sections}
use Rattle.valuing.specs.Curves.{Curve, curve_of, last_of}
use Rattle.valuing.specs.Split.{bond_flows, flow_count, bond_worth}
use Rattle.valuing.specs.Positions.{check_positions}

-- days that flow j's must lie past: 0 for the first, "Days are at least 1", else those of the flow before
abbrev pub days_before : List ℕ → ℕ → ℕ
days_before stretch j = if eqb j 0 then 0 else flow_days stretch (j - 1)

-- "Days are at least 1, strictly rise within a bond, and are at most the last vertex of the bond's curve.", and "zero u16"
abbrev pub flow_good : List ℕ → ℕ → ℕ → Bool
flow_good stretch last j = eqb (flow_zero stretch j) 0 && (ltb (days_before stretch j) (flow_days stretch j) && leb (flow_days stretch j) last)

-- "14 days or zero bytes"
unfoldable pub days_good : List ℕ → ℕ → Bool
days_good stretch last = every (flow_good stretch last) (flow_count stretch)

-- "15 amounts": "Amounts are 1..10,000,000 and total at most 10,000,000 a bond."
unfoldable pub amounts_good : List ℕ → Bool
amounts_good stretch =
    every (λ j. within 1 10000000 (flow_amount stretch j)) (flow_count stretch) && leb (total (flow_amount stretch) (flow_count stretch)) 10000000

-- "14 days or zero bytes; 15 amounts; 16 S is 0": "all its flows under one number before the next"
unfoldable pub flows_code : Curve → List ℕ → ℕ
flows_code curve stretch =
    if days_good stretch (vertex_days curve.vertices (last_of curve.vertices curve.index))
    then (if amounts_good stretch then (if eqb (bond_worth curve stretch) 0 then 16 else 0) else 15)
    else 14

-- "For 14 to 16 the item is the bond"
unfoldable pub check_bond_flows : Market → Finding
check_bond_flows m = first_failing (λ i. flows_code (curve_of m i) (bond_flows m i)) (bond_count m.bonds) 0

-- "Places are checked downwards.": 1 to 13, then the flows, then the positions
unfoldable pub check_valued : List ℕ → Finding
check_valued book = and_then (check_sections book) (and_then (check_bond_flows (market_of book)) (check_positions (market_of book).bonds (positions_of book)))
