-- Contracts between functions: where parts of the book begin, and what a market that passed keeps, as plain facts. No definition
-- or statement of another file here needs it.
use Rattle.std.specs.Prelude.{ℕ, ◌+◌, ◌*◌, ◌-◌, ◌/◌, ◌≤◌, ◌<◌, Bool, true, ◌&&◌, ◌||◌, List, leb, ltb, eqb, length, ◌≡◌, ◌⊎◌, if◌then◌else◌}
use Rattle.std.proofs.Props.{props}
use mathlib.Core.Path.{ap}
use mathlib.Core.Logic.{inl, inr}
use native.Mathlib.Omega.{arith}
use Rattle.numbers.specs.Conditions.{In, within}
use Rattle.numbers.specs.InnerContracts.{part_start}
use Rattle.reading.specs.declared.book.Section.{Section}
use Rattle.reading.specs.declared.book.Section.TheVariants.{Parameters, Vertices, Prices, Bonds, Flows, Positions}
use Rattle.reading.specs.declared.book.Market.{Market as Held}
use Rattle.reading.specs.declared.bonds.Bond.{Bond}
use Rattle.reading.specs.declared.vertices.Vertex.{Vertex}
use Rattle.reading.specs.Book.{section_offset, section_length, Market, market, parameters_section, vertices_section, prices_section, bonds_section, flows_section, positions_section}
use Rattle.reading.specs.Bonds.{bond_count, first_flow, flow_count_of, bond_curve, dirty_price, flows_before, flow_total}
use Rattle.reading.specs.Vertices.{has_curve, vertex_count, vertex_curve, vertex_zero, vertex_days}
use Rattle.reading.specs.Parameters.{lookback, holding_period, warm_up, confidence, smoothing, tail_mode, decorrelation, history, tail_count}
use Rattle.reading.specs.Prices.{price_at}

-- ---- what the code's sections and markets stand for

-- "Where an answer is an enum, a definition gives this paper's number and values for each of the enum's cases.": the index of a
-- section's pair, of `book::Section`
abbrev pub pair_of : Section → ℕ
pair_of Parameters = parameters_section
pair_of Vertices = vertices_section
pair_of Prices = prices_section
pair_of Bonds = bonds_section
pair_of Flows = flows_section
pair_of Positions = positions_section

-- the market whose sections `book::Market` holds
abbrev pub market_in : Held → Market
market_in m = market m.parameters.now m.vertices.now m.prices.now m.bonds.now m.flows.now

-- ---- what is tested of a vertex and of a bond that are read

-- "7 a field", of a vertex
abbrev pub ranges_held : Vertex → Bool
ranges_held own = leb own.curve 7 && (eqb own.zero 0 && within 1 20000 own.days)

-- "strictly rising by curve, then days": a vertex lies before another
abbrev pub before : Vertex → Vertex → Bool
before own other = ltb own.curve other.curve || (eqb own.curve other.curve && ltb own.days other.days)

-- "zero bytes, or price", of a bond
abbrev pub terms_held : Bond → Bool
terms_held own = own.zero && within 1 2000000 own.dirty_price

-- "first flow or number", of a bond before which all bonds have `start` flows
abbrev pub counts_held : ℕ → Bond → Bool
counts_held start own = eqb own.first_flow start && within 1 120 own.flow_count

-- 11 and 12 of a bond; `known`: some vertex has its curve
abbrev pub code_held : Bool → ℕ → Bond → ℕ
code_held known start own = if known && terms_held own then (if counts_held start own then 0 else 12) else 11

-- ---- where a section, and a bond's flows in theirs, begin

-- where section i begins in the book
unfoldable pub section_start : List ℕ → ℕ → ℕ
section_start book i = if leb 48 (length book) then part_start book (section_offset book i) (section_length book i) else 0

-- where bond i's flows begin in the flows' section
unfoldable pub flows_start : List ℕ → List ℕ → ℕ → ℕ
flows_start bonds flows i = part_start flows (first_flow bonds i * 8) (flow_count_of bonds i * 8)

-- ---- the flows' total

-- the last bond's flows end the total
pub record EndsTotal (bonds : List ℕ) : Type 0 where
  pub some : 1 ≤ bond_count bonds
  pub start : first_flow bonds (bond_count bonds - 1) ≡ flows_before bonds (bond_count bonds - 1)

-- ---- a market that passed

-- a section of whole records of r bytes, `low` to `high` of them
pub record Records (s : List ℕ) (r low high : ℕ) : Type 0 where
  pub whole : length s ≡ r * (length s / r)
  pub count : In low high (length s / r)

-- every range of the parameters
pub record ParameterRanges (p : List ℕ) : Type 0 where
  pub lookback_in : In 1 1024 (lookback p)
  pub holding_period_in : In 1 10 (holding_period p)
  pub warm_up_in : warm_up p ≤ 255
  pub confidence_in : In 5000 9999 (confidence p)
  pub smoothing_in : In 1 999 (smoothing p)
  pub tail_mode_in : tail_mode p ≤ 1
  pub decorrelation_in : decorrelation p ≤ 100

-- 3 to 5
pub record SoundParameters (p : List ℕ) : Type 0 where
  pub size : length p ≡ 16
  pub ranges : ParameterRanges p
  pub tail_in : In 1 16 (tail_count p)
  pub history_in : In 2 1289 (history p)

pub record SoundVertex (vertices : List ℕ) (v : ℕ) : Type 0 where
  pub curve : vertex_curve vertices v ≤ 7
  pub zero_byte : vertex_zero vertices v ≡ 0
  pub days : In 1 20000 (vertex_days vertices v)

-- vertex w lies past vertex v: by curve, then days
abbrev pub Past : List ℕ → ℕ → ℕ → Type 0
Past vertices v w =
    (vertex_curve vertices v < vertex_curve vertices w)
    ⊎ ((vertex_curve vertices v ≡ vertex_curve vertices w) × (vertex_days vertices v < vertex_days vertices w))

-- one of two facts that exclude each other holds in one way at most
pub exclusive : {A B : Type 0} → IsProp A → IsProp B → (A → B → ⊥) → IsProp (A ⊎ B)
exclusive one other apart (inl a) (inl b) = ap inl (one a b)
exclusive one other apart (inl a) (inr b) = absurd (apart a b)
exclusive one other apart (inr a) (inl b) = absurd (apart b a)
exclusive one other apart (inr a) (inr b) = ap inr (other a b)

-- a vertex lies past another in one way at most
pub Past-prop : (vertices : List ℕ) (v w : ℕ) → IsProp (Past vertices v w)
Past-prop vertices v w = exclusive (Prim.hlevel props) (Prim.hlevel props) (λ less both. omega (arith, less, both.0))

-- by which a struct's ghost field can hold what a market keeps
pub ruleset sound_props = (props, Past-prop)

-- 6 and 7: any later vertex lies past any earlier one
pub record SoundVertices (vertices : List ℕ) : Type 0 where
  pub form : Records vertices 4 1 64
  pub vertex : (v : ℕ) → v < vertex_count vertices → SoundVertex vertices v
  pub order : (v w : ℕ) → v < w → w < vertex_count vertices → Past vertices v w

-- 8 and 9, for so many vertices with a history of n
pub record SoundPrices (prices : List ℕ) (vertices n : ℕ) : Type 0 where
  pub size : length prices ≡ 4 * (vertices * n)
  pub price_in : (v j : ℕ) → v < vertices → j < n → In 1 2000000 (price_at prices n v j)

-- its flows lie within all flows
pub record SoundBond (vertices bonds : List ℕ) (i : ℕ) : Type 0 where
  pub curve : has_curve vertices (bond_curve bonds i) ≡ true
  pub price : In 1 2000000 (dirty_price bonds i)
  pub first : first_flow bonds i ≡ flows_before bonds i
  pub count_in : In 1 120 (flow_count_of bonds i)
  pub last : first_flow bonds i + flow_count_of bonds i ≤ flow_total bonds

-- 10 to 12
pub record SoundBonds (vertices bonds : List ℕ) : Type 0 where
  pub form : Records bonds 16 1 1024
  pub bond : (i : ℕ) → i < bond_count bonds → SoundBond vertices bonds i
  pub total_in : In 1 122880 (flow_total bonds)

-- 3 to 13
pub record Sound (m : Market) : Type 0 where
  pub parameters : SoundParameters m.parameters
  pub vertices : SoundVertices m.vertices
  pub prices : SoundPrices m.prices (vertex_count m.vertices) (history m.parameters)
  pub bonds : SoundBonds m.vertices m.bonds
  pub flows_size : length m.flows ≡ 8 * flow_total m.bonds
