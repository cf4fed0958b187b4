-- Contracts between functions: what a book that passed its flows and positions keeps, as plain facts, and what the functions ask
-- for. No definition or statement of another file here needs it.
use Rattle.std.specs.Prelude.{ℕ, ◌+◌, ◌-◌, ◌≤◌, ◌<◌, ◌≡◌, Bool, true, false, List, ℤ, pos, nat_abs, length, get_or, eqb, if◌then◌else◌}
use Rattle.numbers.specs.declared.divisor.Divisor.{Divisor}
use Rattle.numbers.specs.Items.{first_where, total, total_z}
use Rattle.numbers.specs.Conditions.{In}
use Rattle.reading.specs.Book.{Market}
use Rattle.reading.specs.Vertices.{vertex_count, vertex_days, has_curve}
use Rattle.reading.specs.Bonds.{bond_count, dirty_price}
use Rattle.reading.specs.Flows.{flow_days, flow_amount}
use Rattle.reading.specs.InnerContracts.{Records, Sound, SoundVertices, SoundPrices}
use Rattle.valuing.specs.declared.curves.Curve.{Curve as HeldCurve}
use Rattle.valuing.specs.declared.curves.Place.{Place}
use Rattle.valuing.specs.declared.rows.Row.{Row}
use Rattle.valuing.specs.declared.positions.Position.{Position as HeldPosition}
use Rattle.valuing.specs.Curves.{Curve, curve_with, curve_of, is_first, upper, price_from}
use Rattle.valuing.specs.Split.{bond_flows, flow_count, worth_before, bond_worth}
use Rattle.valuing.specs.Positions.{Position, position, position_count, position_bond, position_at, value, value_total}
use Rattle.valuing.specs.Mapping.{position_exposure}

-- ---- what the code's records stand for

-- the curve that `curves::Curve` holds
abbrev pub curve_in : HeldCurve → Curve
curve_in c = curve_with c.vertices.now c.prices.bytes.now c.prices.history c.index

-- the price for the days of `curves::Place`
abbrev pub price_at : Place → ℕ
price_at p = price_from p.curve.now.vertices.now p.curve.now.prices.bytes.now p.curve.now.prices.history p.upper p.days

-- the position that `positions::Position` holds
abbrev pub position_in : HeldPosition → Position
position_in r = position r.bond r.nominal

-- ---- days between two vertices

-- how far before vertex u d days lie; 0 where its curve has no vertex below it
unfoldable pub days_left : List ℕ → ℕ → ℕ → ℕ
days_left vertices u d = if is_first vertices u then 0 else vertex_days vertices u - d

-- how far vertex u lies past the one below it on its curve; 1 where there is none
unfoldable pub days_apart : List ℕ → ℕ → ℕ
days_apart vertices u = if is_first vertices u then 1 else vertex_days vertices u - vertex_days vertices (u - 1)

-- divisors by how far each vertex lies past the one below it
pub record Apart (vertices : List ℕ) (apart : List Divisor) : Type 0 where
  pub fits : vertex_count vertices ≤ length apart
  pub days : (v : ℕ) → v < vertex_count vertices → (none : Divisor) → (get_or apart v none).by ≡ days_apart vertices v

-- ---- a book that passed its flows and positions

-- the vertices and prices that a curve is read from passed 6 to 9
pub record SoundCurve (curve : Curve) : Type 0 where
  pub vertices : SoundVertices curve.vertices
  pub prices : SoundPrices curve.prices (vertex_count curve.vertices) curve.history
  pub history_in : In 2 1289 curve.history

-- what a price on a curve is worked out from: as many vertices as 6 allows, and the prices passed 8 and 9
pub record PricedCurve (curve : Curve) : Type 0 where
  pub vertices_in : In 1 64 (vertex_count curve.vertices)
  pub prices : SoundPrices curve.prices (vertex_count curve.vertices) curve.history
  pub history_in : 1 ≤ curve.history

-- d days lie at or before vertex u, and past the vertex before it where that is its curve's
pub record Neighbours (vertices : List ℕ) (u d : ℕ) : Type 0 where
  pub is_vertex : u < vertex_count vertices
  pub above : d ≤ vertex_days vertices u
  pub past : is_first vertices u ≡ false → vertex_days vertices (u - 1) < d

-- a bond that passed 1 to 13: its curve and its flows, by their form
pub record ReadBond (curve : Curve) (stretch : List ℕ) : Type 0 where
  pub known : has_curve curve.vertices curve.index ≡ true
  pub form : Records stretch 8 1 120

-- 14 and 15, and what follows for the vertices
pub record SoundFlows (curve : Curve) (stretch : List ℕ) : Type 0 where
  pub form : Records stretch 8 1 120
  pub days : (j : ℕ) → j < flow_count stretch → 1 ≤ flow_days stretch j
  pub rise : (i j : ℕ) → i < j → j < flow_count stretch → flow_days stretch i < flow_days stretch j
  pub lies : (j : ℕ) → j < flow_count stretch → Neighbours curve.vertices (upper curve.vertices curve.index (flow_days stretch j)) (flow_days stretch j)
  pub amount_in : (j : ℕ) → j < flow_count stretch → In 1 10000000 (flow_amount stretch j)
  pub amount_total : total (flow_amount stretch) (flow_count stretch) ≤ 10000000

-- a bond that passed 14 to 16
pub record ValuedBond (curve : Curve) (stretch : List ℕ) : Type 0 where
  pub sound_curve : SoundCurve curve
  pub sound_flows : SoundFlows curve stretch
  pub worth_in : In 1 20000000 (bond_worth curve stretch)

-- `rows::Row` is flow j's
pub record RowIs (curve : Curve) (stretch : List ℕ) (j : ℕ) (r : Row) : Type 0 where
  pub worth_is : r.worth ≡ worth_before curve stretch (j + 1)
  pub days_are : r.days ≡ flow_days stretch j
  pub upper_is : r.upper ≡ upper curve.vertices curve.index (flow_days stretch j)
  pub left_is : r.left ≡ days_left curve.vertices r.upper r.days

-- the rows of all of a bond's flows
pub record RowsFilled (curve : Curve) (stretch : List ℕ) (rows : List Row) : Type 0 where
  pub fits : flow_count stretch ≤ length rows
  pub row : (j : ℕ) → j < flow_count stretch → (none : Row) → RowIs curve stretch j (get_or rows j none)

-- every dirty price is at most its bound (11)
abbrev pub PricesIn : List ℕ → Type 0
PricesIn bonds = (i : ℕ) → i < bond_count bonds → dirty_price bonds i ≤ 2000000

-- 18 and 19
pub record SoundPosition (m : Market) (r : Position) : Type 0 where
  pub bond_is : r.bond < bond_count m.bonds
  pub nominal_in : nat_abs r.nominal ≤ 10000000000
  pub value_in : nat_abs (value m.bonds r) ≤ 20000000000

-- 17 to 20
pub record SoundPositions (m : Market) (positions : List ℕ) : Type 0 where
  pub form : Records positions 12 0 4096
  pub position : (p : ℕ) → p < position_count positions → SoundPosition m (position_at positions p)
  pub total_in : value_total m.bonds positions (position_count positions) ≤ 100000000000

-- 3 to 20
pub record Valued (m : Market) (records : List ℕ) : Type 0 where
  pub market : Sound m
  pub bond : (i : ℕ) → i < bond_count m.bonds → ValuedBond (curve_of m i) (bond_flows m i)
  pub positions : SoundPositions m records

-- each of the first n entries is so far from its bound that a size can be added or taken off: "total at most
-- 100,000,000,000"
abbrev pub Room : List ℤ → ℕ → ℕ → Type 0
Room out n size = (v : ℕ) → v < n → nat_abs (get_or out v (pos 0)) + size ≤ 100000000000

-- what a position's exposures are computed from, and room for them in a buffer
pub record Addable (m : Market) (r : Position) (out : List ℤ) : Type 0 where
  pub market : Sound m
  pub bond : ValuedBond (curve_of m r.bond) (bond_flows m r.bond)
  pub position : SoundPosition m r
  pub size : vertex_count m.vertices ≤ length out
  pub room : Room out (vertex_count m.vertices) (nat_abs (value m.bonds r))

-- ---- the positions that hold a bond

-- position p holds bond i
abbrev pub holds : List ℕ → ℕ → ℕ → Bool
holds positions i p = eqb (position_bond positions p) i

-- the first position from p on that holds bond i; as many as there are where there is none
unfoldable pub next_holder : List ℕ → ℕ → ℕ → ℕ
next_holder positions i p = first_where (holds positions i) (position_count positions - p) p

-- what vertex v gets of the first p positions that hold bond i
abbrev pub held_up_to : Market → List ℕ → ℕ → ℕ → ℕ → ℤ
held_up_to m positions i p v = total_z (λ q. if holds positions i q then position_exposure m (position_at positions q) v else pos 0) p

-- of all of them
abbrev pub held_exposure : Market → List ℕ → ℕ → ℕ → ℤ
held_exposure m positions i v = held_up_to m positions i (position_count positions) v

-- the sizes of the values of those among the first p
abbrev pub held_values : List ℕ → List ℕ → ℕ → ℕ → ℕ
held_values bonds positions i p = total (λ q. if holds positions i q then nat_abs (value bonds (position_at positions q)) else 0) p

-- room in a buffer for the exposures of the positions that hold a bond
pub record HeldRoom (m : Market) (positions : List ℕ) (i : ℕ) (out : List ℤ) : Type 0 where
  pub size : vertex_count m.vertices ≤ length out
  pub room : Room out (vertex_count m.vertices) (held_values m.bonds positions i (position_count positions))
