-- A market that passed 3 to 13 is sound: what each place's check says of its section, and the whole.
-- Assumes nothing.
use Rattle.std.specs.Prelude.{if◌then◌else◌}
use Prim.Native.Nat.{ℕ, zero, suc, ◌+◌, ◌-◌, ◌*◌, ◌≤◌, ◌<◌}
use mathlib.Core.Path.{◌≡◌, subst}
use mathlib.Core.Bool.{Bool, true, ◌&&◌}
use mathlib.Core.Logic.{⊎_elim, inl, inr}
use mathlib.Core.List.{List}
use lib.Dec.{leb, ltb, eqb}
use lib.ListN.{length}
use native.Mathlib.Omega.{arith}
use native.Mathlib.Nat.{not-suc-le-zero, eq-or-lt_of_le, le_of_suc-le-suc}
use borrow.Author.Tests.{ltb-true, leb-true, eqb-true}
use Rattle.numbers.specs.Findings.{Passed, Refused}
use Rattle.numbers.specs.Conditions.{within, In}
use Rattle.numbers.specs.Items.{and_then, first_failing, every}
use Rattle.numbers.proofs.Items.{in_range_lem, both, either, both_passed, each, every_each, sum_none, sum_next, total_grows, total_bound}
use Rattle.reading.specs.Book.{Market, market_of, check_directory}
use Rattle.reading.specs.Parameters.{history, tail_count, tail_count_by, parameters_form, parameters_ranges, check_parameters}
use Rattle.reading.specs.Vertices.{vertex_count, vertex_curve, vertex_zero, vertex_days, vertices_form, vertex_fields, vertex_order, rises, vertex_code, check_vertices, has_curve}
use Rattle.reading.specs.Prices.{price_at, price_code, check_prices}
use Rattle.reading.specs.Bonds.{bond_count, bond_curve, bond_zero, dirty_price, first_flow, flow_count_of, flows_before, flow_total, bond_terms, bond_counts, check_bonds}
use Rattle.reading.specs.Flows.{check_flows}
use Rattle.reading.specs.Check.{check_market, check_sections}
use Rattle.reading.specs.InnerContracts.{Past, ParameterRanges, SoundParameters, SoundVertex, SoundVertices, SoundPrices, SoundBond, SoundBonds, Sound}
use Rattle.reading.proofs.Forms.{passed_then, good_then, parameters-length, parameter_ranges, vertices_records, bonds_records, bonds_passed}

-- ---- the parameters

-- k is at least 1
pub tail_some : (p : List ℕ) → 1 ≤ tail_count p
unfolding tail_count tail_count_by
tail_some p = omega arith

-- the parameters passed 3 to 5
pub parameters_sound : (p : List ℕ) → check_parameters p ≡ Passed → SoundParameters p
unfolding check_parameters
parameters_sound p e =
    let tail = if leb (tail_count p) 16 then Passed else Refused 5 0 in
    let h1 = passed_then (parameters_form p) (if parameters_ranges p then tail else Refused 4 0) 3 0 e in
    let h2 = passed_then (parameters_ranges p) tail 4 0 h1.1 in
    let h3 = passed_then (leb (tail_count p) 16) Passed 5 0 h2.1 in
    let r : ParameterRanges p = parameter_ranges p h2.0 in
    record {
      size = parameters-length p h1.0;
      ranges = r;
      tail_in = (tail_some p, leb-true (tail_count p) 16 h3.0);
      history_in = (omega arith, omega arith);
    }

-- ---- the vertices

-- a relation that holds from each item to the next, and goes through, holds from any item to any later one
pub from_next : (R : ℕ → ℕ → Type 0) (n : ℕ) → ((a b c : ℕ) → R a b → R b c → R a c) → ((i : ℕ) → suc i < n → R i (suc i))
    → (i j : ℕ) → i < j → j < n → R i j
from_next R n through next i zero low high = absurd (not-suc-le-zero low)
from_next R n through next i (suc j) low high =
    ⊎_elim
    (λ (same : i ≡ j). rw same (next j high))
    (λ (less : i < j). through i j (suc j) (from_next R n through next i j less (omega arith)) (next j high))
    (eq-or-lt_of_le (le_of_suc-le-suc low))

module _ (s : List ℕ) where
  -- what lies past a later vertex lies past the earlier one
  pub past_through : (a b c : ℕ) → Past s a b → Past s b c → Past s a c
  past_through a b c p q =
      ⊎_elim
      (λ (l : vertex_curve s a < vertex_curve s b).
      ⊎_elim
      (λ (m : vertex_curve s b < vertex_curve s c). inl (omega arith))
      (λ (m : (vertex_curve s b ≡ vertex_curve s c) × (vertex_days s b < vertex_days s c)). inl (omega arith))
      q)
      (λ (l : (vertex_curve s a ≡ vertex_curve s b) × (vertex_days s a < vertex_days s b)).
      ⊎_elim
      (λ (m : vertex_curve s b < vertex_curve s c). inl (omega arith))
      (λ (m : (vertex_curve s b ≡ vertex_curve s c) × (vertex_days s b < vertex_days s c)). inr (omega arith, omega arith))
      q)
      p

  -- the test of the order of two vertices holds
  pub past : (v w : ℕ) → rises s v w ≡ true → Past s v w
  past v w t =
      let later = eqb (vertex_curve s v) (vertex_curve s w) && ltb (vertex_days s v) (vertex_days s w) in
      ⊎_elim
      (λ (c : ltb (vertex_curve s v) (vertex_curve s w) ≡ true). inl (ltb-true (vertex_curve s v) (vertex_curve s w) c))
      (λ (d : later ≡ true).
      let h = both (eqb (vertex_curve s v) (vertex_curve s w)) (ltb (vertex_days s v) (vertex_days s w)) d in
      inr (eqb-true (vertex_curve s v) (vertex_curve s w) h.0, ltb-true (vertex_days s v) (vertex_days s w) h.1))
      (either (ltb (vertex_curve s v) (vertex_curve s w)) later t)

  -- the vertices passed: their form holds, and so do the tests of each
  pub vertices_passed : check_vertices s ≡ Passed
      → (vertices_form s ≡ true) × ((v : ℕ) → v < vertex_count s → (vertex_fields s v ≡ true) × (vertex_order s v ≡ true))
  unfolding check_vertices vertex_code
  vertices_passed e =
      let h = passed_then (vertices_form s) (first_failing (vertex_code s) (vertex_count s) 0) 6 0 e in (
        h.0,
        λ v low.
            let good = each (vertex_code s) (vertex_count s) 0 h.1 v (omega arith) (omega arith) in
            both (vertex_fields s v) (vertex_order s v) (good_then (vertex_fields s v && vertex_order s v) 0 6 good).0,
      )

  -- the test of a vertex's fields holds: each field is in its range
  pub good_vertex : (v : ℕ) → vertex_fields s v ≡ true → SoundVertex s v
  good_vertex v t =
      let h1 = both (leb (vertex_curve s v) 7) (eqb (vertex_zero s v) 0 && within 1 20000 (vertex_days s v)) t in
      let h2 = both (eqb (vertex_zero s v) 0) (within 1 20000 (vertex_days s v)) h1.1 in
      record {
        curve = leb-true (vertex_curve s v) 7 h1.0;
        zero_byte = eqb-true (vertex_zero s v) 0 h2.0;
        days = in_range_lem 1 20000 (vertex_days s v) h2.1;
      }

  -- the test of a later vertex's order holds: it lies past the one before
  pub next_past : (v : ℕ) → vertex_order s (suc v) ≡ true → Past s v (suc v)
  next_past v t =
      let before : suc v - 1 ≡ v = omega arith in
      ⊎_elim
      (λ (none : eqb (suc v) 0 ≡ true). absurd (let z : suc v ≡ 0 = eqb-true (suc v) 0 none in omega arith))
      (λ (r : rises s (suc v - 1) (suc v) ≡ true). subst (λ (a : ℕ). Past s a (suc v)) before (past (suc v - 1) (suc v) r))
      (either (eqb (suc v) 0) (rises s (suc v - 1) (suc v)) t)

  -- the vertices passed 6 and 7
  pub vertices_sound : check_vertices s ≡ Passed → SoundVertices s
  vertices_sound e =
      let h = vertices_passed e in
      record {
        form = vertices_records s h.0;
        vertex = λ v low. good_vertex v (h.1 v low).0;
        order = from_next (Past s) (vertex_count s) past_through (λ v low. next_past v (h.1 (suc v) low).1);
      }

-- ---- the prices

-- the prices passed 8 and 9
pub prices_sound : (prices : List ℕ) (vertices n : ℕ) → check_prices prices vertices n ≡ Passed → SoundPrices prices vertices n
unfolding check_prices price_code
prices_sound prices vertices n e =
    let h = passed_then (eqb (length prices) (4 * (vertices * n))) (first_failing (price_code prices n) vertices 0) 8 0 e in
    record {
      size = eqb-true (length prices) (4 * (vertices * n)) h.0;
      price_in = λ v j low small.
          let test : ℕ → Bool = λ j. within 1 2000000 (price_at prices n v j) in
          let good = good_then (every test n) 0 8 (each (price_code prices n) vertices 0 h.1 v (omega arith) (omega arith)) in
          in_range_lem 1 2000000 (price_at prices n v j) (every_each test n good.0 j small);
    }

-- ---- the bonds

module _ (b : List ℕ) where
  -- a bond's flows lie within all flows
  pub flows_within : (i : ℕ) → i < bond_count b → flows_before b i + flow_count_of b i ≤ flow_total b
  unfolding flow_total flows_before
  flows_within i low = omega (arith, sum_next ◌+◌ 0 (flow_count_of b) i, total_grows (flow_count_of b) (i + 1) (bond_count b) (omega arith))

  -- 1 to 1,024 bonds of 1 to 120 flows have 1 to 122,880 flows
  pub total_in_lem : In 1 1024 (bond_count b) → ((i : ℕ) → i < bond_count b → In 1 120 (flow_count_of b i)) → In 1 122880 (flow_total b)
  unfolding flow_total flows_before
  total_in_lem count counts = (
    omega (arith, sum_none ◌+◌ 0 (flow_count_of b), sum_next ◌+◌ 0 (flow_count_of b) 0, counts 0 (omega arith), total_grows (flow_count_of b) 1 (bond_count b) (omega arith)),
    omega (arith, total_bound (flow_count_of b) 120 (bond_count b) (λ i low. (counts i low).1)),
  )

module _ (v b : List ℕ) where
  -- the tests of a bond hold: its facts do
  pub good_bond : (i : ℕ) → i < bond_count b → has_curve v (bond_curve b i) ≡ true → bond_terms b i ≡ true → bond_counts b i ≡ true → SoundBond v b i
  good_bond i low known terms counts =
      let h1 = both (bond_zero b i) (within 1 2000000 (dirty_price b i)) terms in
      let h2 = both (eqb (first_flow b i) (flows_before b i)) (within 1 120 (flow_count_of b i)) counts in
      let first : first_flow b i ≡ flows_before b i = eqb-true (first_flow b i) (flows_before b i) h2.0 in
      record {
        curve = known;
        price = in_range_lem 1 2000000 (dirty_price b i) h1.1;
        first = first;
        count_in = in_range_lem 1 120 (flow_count_of b i) h2.1;
        last = omega (arith, flows_within b i low);
      }

  -- the bonds passed 10 to 12
  pub bonds_sound : check_bonds v b ≡ Passed → SoundBonds v b
  bonds_sound e =
      let h = bonds_passed v b e in
      let form = bonds_records b h.0 in
      let bond : (i : ℕ) → i < bond_count b → SoundBond v b i = λ i low. good_bond i low (h.1 i low).0 (h.1 i low).1 (h.1 i low).2 in
      record { form = form; bond = bond; total_in = total_in_lem b form.count (λ i low. (bond i low).count_in) }

-- ---- the flows' length

-- the flows passed 13
pub flows_sound : (flows : List ℕ) (count : ℕ) → check_flows flows count ≡ Passed → length flows ≡ 8 * count
unfolding check_flows
flows_sound flows count e = eqb-true (length flows) (8 * count) (passed_then (eqb (length flows) (8 * count)) Passed 13 0 e).0

-- ---- the market

-- each place passed
pub record MarketPassed (m : Market) : Type 0 where
  pub parameters : check_parameters m.parameters ≡ Passed
  pub vertices : check_vertices m.vertices ≡ Passed
  pub prices : check_prices m.prices (vertex_count m.vertices) (history m.parameters) ≡ Passed
  pub bonds : check_bonds m.vertices m.bonds ≡ Passed
  pub flows : check_flows m.flows (flow_total m.bonds) ≡ Passed

-- the market passed 3 to 13: each of its places did
pub market_passed : (m : Market) → check_market m ≡ Passed → MarketPassed m
unfolding check_market
market_passed m e =
    let v5 = check_flows m.flows (flow_total m.bonds) in
    let v4 = check_bonds m.vertices m.bonds in
    let v3 = check_prices m.prices (vertex_count m.vertices) (history m.parameters) in
    let v2 = check_vertices m.vertices in
    let h1 = both_passed (check_parameters m.parameters) (and_then v2 (and_then v3 (and_then v4 v5))) e in
    let h2 = both_passed v2 (and_then v3 (and_then v4 v5)) h1.1 in
    let h3 = both_passed v3 (and_then v4 v5) h2.1 in
    let h4 = both_passed v4 v5 h3.1 in
    record { parameters = h1.0; vertices = h2.0; prices = h3.0; bonds = h4.0; flows = h4.1 }

-- a market that passed 3 to 13 is sound
pub market_sound : (m : Market) → check_market m ≡ Passed → Sound m
market_sound m e =
    let passed = market_passed m e in
    record {
      parameters = parameters_sound m.parameters passed.parameters;
      vertices = vertices_sound m.vertices passed.vertices;
      prices = prices_sound m.prices (vertex_count m.vertices) (history m.parameters) passed.prices;
      bonds = bonds_sound m.vertices m.bonds passed.bonds;
      flows_size = flows_sound m.flows (flow_total m.bonds) passed.flows;
    }

-- ---- the book

-- a book passed 1 to 13: its directory passed 1 and 2, and its market 3 to 13
pub book_passed : (book : List ℕ) → check_sections book ≡ Passed → (check_directory book ≡ Passed) × (check_market (market_of book) ≡ Passed)
unfolding check_sections
book_passed book e = both_passed (check_directory book) (check_market (market_of book)) e

-- a book that passed 1 to 13 has a sound market
pub sound : (book : List ℕ) → check_sections book ≡ Passed → Sound (market_of book)
sound book e = market_sound (market_of book) (book_passed book e).1
