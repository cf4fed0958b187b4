-- The mapping of shares to vertices, and the exposures.
use Rattle.std.specs.Prelude.{ℕ, ◌+◌, ◌-◌, ◌*◌, ◌/◌, List, eqb, ℤ, nat_abs, if◌then◌else◌}
use Rattle.numbers.specs.Items.{total_z}
use Rattle.numbers.specs.Rounding.{negative, with_sign}
use Rattle.reading.specs.Book.{Market}
use Rattle.reading.specs.Vertices.{vertex_days}
use Rattle.reading.specs.Flows.{flow_days}
use Rattle.valuing.specs.Curves.{Curve, curve_of, upper, between}
use Rattle.valuing.specs.Split.{bond_flows, flow_count, share}
use Rattle.valuing.specs.Positions.{Position, position_count, position_at, value}

-- "Between a and b, a gets the floor of size × (b − d) / (b − a)": nothing where d is on a vertex's days or before the
-- first vertex, b being u, the first vertex of the curve at or past d
unfoldable pub lower_size : List ℕ → ℕ → ℕ → ℕ → ℕ
lower_size vertices u d size =
    if between vertices u d then size * (vertex_days vertices u - d) / (vertex_days vertices u - vertex_days vertices (u - 1)) else 0

-- "A share on a vertex's days, or before the first vertex, goes to that vertex." "b the rest": what vertex v gets, on sizes
unfoldable pub part_size : List ℕ → ℕ → ℕ → ℕ → ℕ → ℕ
part_size vertices u d size v =
    if eqb v u then size - lower_size vertices u d size else (if eqb (v + 1) u then lower_size vertices u d size else 0)

-- "sign kept": what vertex v gets of a share at d days, u being the first vertex of the curve at or past d
unfoldable pub mapped : List ℕ → ℕ → ℕ → ℤ → ℕ → ℤ
mapped vertices u d share v = with_sign (negative share) (part_size vertices u d (nat_abs share) v)

-- of a share at d days on a curve
abbrev pub mapped_for : Curve → ℕ → ℤ → ℕ → ℤ
mapped_for curve d share v = mapped curve.vertices (upper curve.vertices curve.index d) d share v

-- what vertex v gets of a value, split over the flows
unfoldable pub mapped_value : Curve → List ℕ → ℤ → ℕ → ℤ
mapped_value curve stretch value v = total_z (λ j. mapped_for curve (flow_days stretch j) (share curve stretch value j) v) (flow_count stretch)

-- "Each position is valued, split and mapped by itself.": what vertex v gets of a position
unfoldable pub position_exposure : Market → Position → ℕ → ℤ
position_exposure m r v = mapped_value (curve_of m r.bond) (bond_flows m r.bond) (value m.bonds r) v

-- the total of the first n positions at vertex v
unfoldable pub exposure_up_to : Market → List ℕ → ℕ → ℕ → ℤ
exposure_up_to m positions n v = total_z (λ p. position_exposure m (position_at positions p) v) n

-- "An exposure is a vertex's total."
unfoldable pub exposure : Market → List ℕ → ℕ → ℤ
exposure m positions v = exposure_up_to m positions (position_count positions) v
