-- Laws of a curve: the vertices around d days, the price for them, and what a bond's flows are worth at such prices.
-- Assumes nothing.
use Prim.Native.Nat.{ℕ, zero, suc, ◌+◌, ◌-◌, ◌*◌, ◌≤◌, ◌<◌}
use mathlib.Core.Bool.{Bool, true, false, not, ◌&&◌}
use mathlib.Core.List.{List}
use mathlib.Core.Path.{◌≡◌, refl, sym, ap, ◌∙◌}
use native.Mathlib.Nat.{mul-add, mul_comm, mul-le-mul_left, mul-le-mul_right, div-le_of_le-mul}
use native.Mathlib.Numerals.{add-one}
use native.Mathlib.Omega.{arith}
use borrow.Author.Tests.{ltb-true, ltb-false, leb-true, leb-false, eqb-true, eqb-false, not-false, le-leb, eq-eqb, ne_eqb}
use lib.Dec.{leb, ltb, eqb}
use Rattle.numbers.specs.Items.{last_where, total}
use Rattle.numbers.proofs.Items.{by_test, both, neither, some_which, sum_none, sum_next, total_grows}
use Rattle.numbers.proofs.Where.{where_bound, where_here, where_holds, where_before, where_found, where_past, last_none, last_here, last_skip, last_bound, last_holds}
use Rattle.reading.specs.Flows.{flow_days, flow_amount}
use Rattle.numbers.specs.Conditions.{In}
use Rattle.reading.specs.InnerContracts.{SoundPrices}
use Rattle.reading.specs.Vertices.{vertex_count, vertex_curve, vertex_days, has_curve}
use Rattle.valuing.specs.Curves.{Curve, newest, upper, last_of, is_first, line, price_before, price_from, price_for}
use Rattle.valuing.specs.InnerContracts.{SoundCurve, PricedCurve, Neighbours, SoundFlows}
use Rattle.valuing.specs.Split.{flow_count, worth_of, worth, worth_before, bond_worth}

-- ---- the first vertex of a curve

-- a vertex that is not the first of its curve has one of its curve before it
pub later_vertex : (vertices : List ℕ) (u : ℕ) → is_first vertices u ≡ false → (1 ≤ u) × (vertex_curve vertices (u - 1) ≡ vertex_curve vertices u)
later_vertex vertices u later =
    let n = neither (eqb u 0) (not (eqb (vertex_curve vertices (u - 1)) (vertex_curve vertices u))) later in
    (omega (arith, eqb-false u 0 n.0), eqb-true _ _ (not-false _ n.1))

-- ---- the first vertex at or past d days

module _ (vertices : List ℕ) (index : ℕ) where
  -- the tests that `upper` and `last_of` look for
  abbrev reaches : ℕ → ℕ → Bool
  reaches d v = eqb (vertex_curve vertices v) index && leb d (vertex_days vertices v)

  abbrev has : ℕ → Bool
  has v = eqb (vertex_curve vertices v) index

  -- it is a vertex, or one past them
  pub upper_bound : (d : ℕ) → upper vertices index d ≤ vertex_count vertices
  unfolding upper
  upper_bound d = where_bound (reaches d) (vertex_count vertices)

  -- it is a vertex: of the curve, at or past d
  pub upper_holds : (d : ℕ) → upper vertices index d < vertex_count vertices
      → (vertex_curve vertices (upper vertices index d) ≡ index) × (d ≤ vertex_days vertices (upper vertices index d))
  unfolding upper
  upper_holds d low =
      let u = upper vertices index d in
      let h = both (eqb (vertex_curve vertices u) index) (leb d (vertex_days vertices u)) (where_holds (reaches d) (vertex_count vertices) low) in
      (eqb-true (vertex_curve vertices u) index h.0, leb-true d (vertex_days vertices u) h.1)

  -- a vertex of the curve at or past d: the first is no later
  pub upper_here : (d v : ℕ) → v < vertex_count vertices → vertex_curve vertices v ≡ index → d ≤ vertex_days vertices v → upper vertices index d ≤ v
  unfolding upper
  upper_here d v low same past =
      where_here (reaches d) (vertex_count vertices) v low (simp (eq-eqb (vertex_curve vertices v) index same, le-leb d (vertex_days vertices v) past))

  -- the curve's vertices before it lie below d
  pub upper_before : (d v : ℕ) → v < upper vertices index d → vertex_curve vertices v ≡ index → vertex_days vertices v < d
  unfolding upper
  upper_before d v low same =
      let bad : reaches d v ≡ false = where_before (reaches d) (vertex_count vertices) v low in
      leb-false d (vertex_days vertices v) (simp (eq-eqb (vertex_curve vertices v) index same) at bad)

  -- for more days it is no earlier
  pub upper_rises : (d e : ℕ) → d ≤ e → upper vertices index d ≤ upper vertices index e
  upper_rises d e less =
      by_test (ltb (upper vertices index e) (vertex_count vertices))
      (λ t.
      let low = ltb-true (upper vertices index e) (vertex_count vertices) t in
      let h = upper_holds e low in
      upper_here d (upper vertices index e) low h.0 (omega (arith, h.1)))
      (λ f. omega (arith, upper_bound d, ltb-false (upper vertices index e) (vertex_count vertices) f))

  -- it is a vertex: d lies between it and the one before
  pub neighbours : (d : ℕ) → upper vertices index d < vertex_count vertices → Neighbours vertices (upper vertices index d) d
  neighbours d low =
      let u = upper vertices index d in
      let h = upper_holds d low in
      record {
        is_vertex = low;
        above = h.1;
        past = λ later.
            let l = later_vertex vertices u later in
            upper_before d (u - 1) (omega (arith, l.0)) (l.1 ∙ h.0);
      }

  -- a search from the left that has come to v without passing it
  module _ (d v : ℕ) (reached : v ≤ upper vertices index d) where
    pub upper_found : v < vertex_count vertices → reaches d v ≡ true → v ≡ upper vertices index d
    unfolding upper
    upper_found = where_found (reaches d) (vertex_count vertices) v reached

    pub upper_next : v < vertex_count vertices → reaches d v ≡ false → v + 1 ≤ upper vertices index d
    unfolding upper
    upper_next = where_past (reaches d) (vertex_count vertices) v reached

    pub upper_end : vertex_count vertices ≤ v → vertex_count vertices ≡ upper vertices index d
    upper_end end = omega (arith, reached, end, upper_bound d)

  -- ---- the last vertex

  -- where there are vertices, it is one
  pub last_is : 1 ≤ vertex_count vertices → last_of vertices index < vertex_count vertices
  unfolding last_of
  last_is some = last_bound has (vertex_count vertices) some

  last_holding : has_curve vertices index ≡ true → (vertex_curve vertices (last_of vertices index) ≡ index) × (last_of vertices index < vertex_count vertices)
  unfolding last_of has_curve
  last_holding known =
      let w = some_which has (vertex_count vertices) known in
      let l = last_holds has (vertex_count vertices) w.0 w.1 w.2 in
      (eqb-true (vertex_curve vertices (last_of vertices index)) index l.0, l.1)

  -- days up to the last vertex have a vertex at or past them
  pub covered : (d : ℕ) → has_curve vertices index ≡ true → d ≤ vertex_days vertices (last_of vertices index) → upper vertices index d < vertex_count vertices
  covered d known h =
      let l = last_holding known in
      omega (arith, l.1, upper_here d (last_of vertices index) l.1 l.0 h)

  -- of the first v vertices, the last of the curve
  abbrev pub last_below : ℕ → ℕ
  last_below v = last_where has v

  pub last_start : last_below (vertex_count vertices) ≡ last_of vertices index
  unfolding last_of
  last_start = refl

  -- a search from the right that has v vertices left
  module _ (v : ℕ) (left : last_below v ≡ last_of vertices index) where
    before : 0 < v → v - 1 + 1 ≡ v
    before some = omega arith

    pub last_found : 0 < v → vertex_curve vertices (v - 1) ≡ index → v - 1 ≡ last_of vertices index
    last_found some e = sym (last_here has (v - 1) (eq-eqb _ _ e)) ∙ (ap last_below (before some) ∙ left)

    pub last_next : 0 < v → (vertex_curve vertices (v - 1) ≡ index → ⊥) → last_below (v - 1) ≡ last_of vertices index
    last_next some e = sym (last_skip has (v - 1) (ne_eqb _ _ e)) ∙ (ap last_below (before some) ∙ left)

    pub last_end : v ≤ 0 → 0 ≡ last_of vertices index
    last_end none =
        let empty : 0 ≡ v = omega arith in
        sym (last_none has) ∙ (ap last_below empty ∙ left)

-- ---- the price

module _ (vertices prices : List ℕ) (history u d : ℕ) where
  -- on a vertex's days
  pub price_on : d ≡ vertex_days vertices u → newest prices history u ≡ price_from vertices prices history u d
  unfolding price_from
  price_on e = simp (eq-eqb _ _ e)

  -- before the first vertex
  pub price_first : (d ≡ vertex_days vertices u → ⊥) → is_first vertices u ≡ true → newest prices history u ≡ price_from vertices prices history u d
  unfolding price_from price_before
  price_first e first = simp (ne_eqb _ _ e, first)

  -- between two vertices
  pub price_between : (d ≡ vertex_days vertices u → ⊥) → is_first vertices u ≡ false
      → line (vertex_days vertices (u - 1)) (newest prices history (u - 1)) (vertex_days vertices u) (newest prices history u) d ≡ price_from vertices prices history u d
  unfolding price_from
  price_between e later = simp (ne_eqb _ _ e, later)

-- between two prices at most top lie prices at most top
pub line-le : (a x b y d top : ℕ) → a < d → d ≤ b → x ≤ top → y ≤ top → line a x b y d ≤ top
unfolding line
line-le a x b y d top low high first second =
    let whole : b - d + (d - a) ≡ b - a = omega arith in
    div-le_of_le-mul (b - a)
    (rw (mul_comm (b - a) top, ← whole)
    (omega (arith, mul-le-mul_right (b - d) first, mul-le-mul_right (d - a) second, mul-add top (b - d) (d - a))))

-- a vertex's newest price is in its range
pub newest_in_lem : (prices : List ℕ) (n history v : ℕ) → SoundPrices prices n history → 1 ≤ history → v < n → In 1 2000000 (newest prices history v)
newest_in_lem prices n history v s some low = s.price_in v (history - 1) low (omega arith)

-- the price for d days between its vertices is at most 2,000,000
pub price_from_in : (vertices prices : List ℕ) (history u d : ℕ) → Neighbours vertices u d → SoundPrices prices (vertex_count vertices) history → 1 ≤ history
    → price_from vertices prices history u d ≤ 2000000
price_from_in vertices prices history u d near s some =
    let top : (v : ℕ) → v < vertex_count vertices → newest prices history v ≤ 2000000 =
    λ v low. (newest_in_lem prices (vertex_count vertices) history v s some low).1 in
    by_test (eqb d (vertex_days vertices u))
    (λ t. rw (← price_on vertices prices history u d (eqb-true _ _ t)) (top u near.is_vertex))
    (λ f.
    let off : d ≡ vertex_days vertices u → ⊥ = eqb-false _ _ f in
    by_test (is_first vertices u)
    (λ first. rw (← price_first vertices prices history u d off first) (top u near.is_vertex))
    (λ later. rw (← price_between vertices prices history u d off later)
    (line-le (vertex_days vertices (u - 1)) (newest prices history (u - 1)) (vertex_days vertices u) (newest prices history u) d 2000000
    (near.past later) near.above (top (u - 1) (omega (arith, near.is_vertex))) (top u near.is_vertex))))

-- a curve that passed 6 to 9 has what its prices are worked out from
pub sound_priced : (curve : Curve) → SoundCurve curve → PricedCurve curve
sound_priced curve s = record { vertices_in = s.vertices.form.count; prices = s.prices; history_in = omega (arith, s.history_in.0) }

-- the price for d days on a curve is at most 2,000,000
pub price-le : (curve : Curve) (d : ℕ) → PricedCurve curve → Neighbours curve.vertices (upper curve.vertices curve.index d) d → price_for curve d ≤ 2000000
unfolding price_for
price-le curve d s near =
    price_from_in curve.vertices curve.prices curve.history (upper curve.vertices curve.index d) d near s.prices s.history_in

-- ---- what flows are worth

module _ (curve : Curve) (stretch : List ℕ) where
  -- a flow is worth at most twice its amount
  pub worth-le : (j : ℕ) → PricedCurve curve → Neighbours curve.vertices (upper curve.vertices curve.index (flow_days stretch j)) (flow_days stretch j)
      → worth curve stretch j ≤ 2 * flow_amount stretch j
  unfolding worth worth_of
  worth-le j s near =
      div-le_of_le-mul 1000000
      (omega (arith, mul-le-mul_left (flow_amount stretch j) (price-le curve (flow_days stretch j) s near)))

  -- one flow more
  pub worth_next : (j : ℕ) → worth_before curve stretch (j + 1) ≡ worth_before curve stretch j + worth curve stretch j
  unfolding worth_before
  worth_next j = sum_next ◌+◌ 0 (worth curve stretch) j

  -- more flows are worth no less
  pub worth_rises : (i j : ℕ) → i ≤ j → worth_before curve stretch i ≤ worth_before curve stretch j
  unfolding worth_before
  worth_rises i j h = total_grows (worth curve stretch) i j h

  -- no flows are worth nothing
  pub worth_none : worth_before curve stretch 0 ≡ 0
  unfolding worth_before
  worth_none = sum_none ◌+◌ 0 (worth curve stretch)

  -- flows are worth at most twice their amounts
  pub worth_before-le : PricedCurve curve → SoundFlows curve stretch → (j : ℕ) → j ≤ flow_count stretch → worth_before curve stretch j ≤ 2 * total (flow_amount stretch) j
  worth_before-le s f zero low = omega (arith, worth_none)
  worth_before-le s f (suc j) low =
      rw (← add-one j)
      (omega (arith, worth_next j, sum_next ◌+◌ 0 (flow_amount stretch) j, worth-le j s (f.lies j low), worth_before-le s f j (omega arith)))

  -- a bond is worth at most 20,000,000
  pub worth_at_most : PricedCurve curve → SoundFlows curve stretch → bond_worth curve stretch ≤ 20000000
  unfolding bond_worth
  worth_at_most s f = omega (arith, worth_before-le s f (flow_count stretch) (omega arith), f.amount_total)
