-- The price for d days on a curve.
use Rattle.std.specs.Prelude.{ℕ, ◌+◌, ◌-◌, ◌*◌, ◌/◌, Bool, not, ◌&&◌, ◌||◌, List, leb, ltb, eqb, if◌then◌else◌}
use Rattle.numbers.specs.Items.{first_where, last_where}
use Rattle.reading.specs.Book.{Market}
use Rattle.reading.specs.Parameters.{history as history_of}
use Rattle.reading.specs.Vertices.{vertex_count, vertex_curve, vertex_days}
use Rattle.reading.specs.Prices.{price_at}
use Rattle.reading.specs.Bonds.{bond_curve}

-- a curve by its index, with the vertices and the prices that it is read from, `history` of them a vertex
pub record Curve : Type 0 where
  pub vertices : List ℕ
  pub prices : List ℕ
  pub history : ℕ
  pub index : ℕ

abbrev pub curve_with : List ℕ → List ℕ → ℕ → ℕ → Curve
curve_with vertices prices history index = record { vertices = vertices; prices = prices; history = history; index = index }

-- the curve of bond i
unfoldable pub curve_of : Market → ℕ → Curve
curve_of m i = curve_with m.vertices m.prices (history_of m.parameters) (bond_curve m.bonds i)

-- "newest price": prices stand "oldest first"
abbrev pub newest : List ℕ → ℕ → ℕ → ℕ
newest prices history v = price_at prices history v (history - 1)

-- the first vertex of a curve at or past d days
unfoldable pub upper : List ℕ → ℕ → ℕ → ℕ
upper vertices index d = first_where (λ v. eqb (vertex_curve vertices v) index && leb d (vertex_days vertices v)) (vertex_count vertices) 0

-- "the last vertex of the bond's curve"
unfoldable pub last_of : List ℕ → ℕ → ℕ
last_of vertices index = last_where (λ v. eqb (vertex_curve vertices v) index) (vertex_count vertices)

-- u is "the first vertex" of its curve: the one before it is none, or another curve's
abbrev pub is_first : List ℕ → ℕ → Bool
is_first vertices u = eqb u 0 || not (eqb (vertex_curve vertices (u - 1)) (vertex_curve vertices u))

-- d lies "between neighbouring vertices": u, the first vertex at or past d, and the one before it
abbrev pub between : List ℕ → ℕ → ℕ → Bool
between vertices u d = ltb d (vertex_days vertices u) && not (is_first vertices u)

-- "the floor of (a's newest price × (b − d) + b's newest price × (d − a)) / (b − a)", x and y being the prices
unfoldable pub line : ℕ → ℕ → ℕ → ℕ → ℕ → ℕ
line a x b y d = (x * (b - d) + y * (d - a)) / (b - a)

-- "before the first vertex, the first vertex's"
unfoldable pub price_before : List ℕ → List ℕ → ℕ → ℕ → ℕ → ℕ
price_before vertices prices history u d = newest prices history u

-- "The price for d days on a curve: a vertex's own newest price at its days; between neighbouring vertices a and b, the
-- floor ..; before the first vertex, the first vertex's.", u being the first vertex of the curve at or past d
unfoldable pub price_from : List ℕ → List ℕ → ℕ → ℕ → ℕ → ℕ
price_from vertices prices history u d =
    if eqb d (vertex_days vertices u)
    then newest prices history u
    else (if is_first vertices u
    then price_before vertices prices history u d
    else line (vertex_days vertices (u - 1)) (newest prices history (u - 1)) (vertex_days vertices u) (newest prices history u) d)

unfoldable pub price_for : Curve → ℕ → ℕ
price_for curve d = price_from curve.vertices curve.prices curve.history (upper curve.vertices curve.index d) d
