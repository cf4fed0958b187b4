-- What the checks of the flows and of the positions cite, loop by loop and branch by branch: days, amounts, worths and the codes of
-- a bond; the value and the code of a position; and that a price which was worked out lies in its range.
-- Assumes nothing.
use Prim.Native.Nat.{ℕ, ◌+◌, ◌-◌, ◌*◌, ◌%◌, ◌^◌, ◌≤◌, ◌<◌}
use mathlib.Core.Bool.{true, false, ◌&&◌}
use mathlib.Core.List.{List}
use mathlib.Core.Path.{◌≡◌, sym, ap, ◌∙◌}
use native.Mathlib.Nat.{mul-le-mul, le_of_eq}
use native.Mathlib.Omega.{arith}
use borrow.Author.Tests.{eq-eqb, ne_eqb, eqb-true, eqb-false, le-leb, lt-leb, lt-ltb, le-ltb}
use lib.Dec.{leb, eqb}
use lib.IntN.{ℤ, pos, nat_abs, ◌*ℤ◌}
use lib.ListN.{length}
use lib.Signed.{mag}
use mir.Facts.{to_z-of_z}
use mir.Syntax.{w64}
use mir.Val.{to_z, of_z}
use Rattle.numbers.specs.Conditions.{within}
use Rattle.numbers.specs.Items.{and_then, first_failing, every, total}
use Rattle.numbers.specs.Findings.{Finding, Passed, Refused, judged}
use Rattle.numbers.proofs.Items.{by_test, judged_bad, refused_not_passed, every_bad, sum_none, sum_next, Reached, reached_refused, reached_end}
use Rattle.numbers.proofs.Signs.{came, size_fits, nat_abs_mul}
use Rattle.reading.specs.Bonds.{bond_count, dirty_price}
use Rattle.reading.specs.Book.{Market}
use Rattle.reading.specs.Flows.{flow_days, flow_amount}
use Rattle.reading.specs.InnerContracts.{Sound}
use Rattle.reading.specs.Vertices.{vertex_days}
use Rattle.valuing.specs.Check.{days_before, flow_good, days_good, amounts_good, flows_code, check_bond_flows}
use Rattle.valuing.specs.Curves.{Curve, curve_of, upper, last_of, price_from, price_for}
use Rattle.valuing.specs.Positions.{Position, position, position_bond, position_nominal, position_at, value_of, value, value_total, position_count, positions_form, position_code, total_finding, check_positions}
use Rattle.valuing.specs.declared.curves.Curve.{Curve as HeldCurve}
use Rattle.valuing.specs.declared.curves.Place.{Place}
use Rattle.valuing.specs.InnerContracts.{curve_in, days_left, days_apart, Apart, Neighbours, PricedCurve, SoundFlows, ReadBond}
use Rattle.valuing.specs.Split.{bond_flows, flow_count, worth_of, worth, worth_before, bond_worth}
use Rattle.valuing.proofs.Pricing.{upper_rises, last_is, price_from_in, worth_next, worth_rises}
use Rattle.valuing.proofs.Sound.{curve_known, stretch_form, days_next, flows_sound, code_passed}

-- ---- curves and places

-- what the code's curves keep
pub held_priced : (curve : HeldCurve) → PricedCurve (curve_in curve)
held_priced curve = record { vertices_in = curve.vertices_in; prices = curve.prices_in; history_in = curve.history_in }

-- and its places
pub held_near : (place : Place) → Neighbours place.curve.now.vertices.now place.upper place.days
held_near place = record { is_vertex = place.is_vertex; above = place.above; past = place.past }

-- how far the vertices of a curve lie apart
pub held_apart : (curve : HeldCurve) → Apart curve.vertices.now curve.apart.now
unfolding days_apart
held_apart curve = record { fits = curve.apart_fits; days = curve.apart_are }

-- and how far before a place's vertex the days lie
pub held_left : (place : Place) → place.left ≡ days_left place.curve.now.vertices.now place.upper place.days
unfolding days_left
held_left place = place.left_is

-- ---- the price for days on a curve

module _ (curve : Curve) (u d : ℕ) (priced : PricedCurve curve) (near : Neighbours curve.vertices u d) where
  -- a price that is the definition's lies in the prices' range
  pub price_within : {r : ℕ} → r ≡ price_from curve.vertices curve.prices curve.history u d → r ≤ 2000000
  price_within e = rw e (price_from_in curve.vertices curve.prices curve.history u d near priced.prices priced.history_in)

-- ---- a bond's flows

module _ (stretch : List ℕ) (last j : ℕ) where
  -- a flow fails under 14
  pub days_bad : j < flow_count stretch → flow_good stretch last j ≡ false → false ≡ days_good stretch last
  unfolding days_good
  days_bad low bad = sym (every_bad (flow_good stretch last) (flow_count stretch) j low bad)

  -- none does
  pub days_end : j ≡ flow_count stretch → every (flow_good stretch last) j ≡ true → true ≡ days_good stretch last
  unfolding days_good
  days_end end all = sym (rw (← end) all)

module _ (stretch : List ℕ) (j : ℕ) where
  -- an amount fails under 15
  pub amounts_bad : j < flow_count stretch → within 1 10000000 (flow_amount stretch j) ≡ false → false ≡ amounts_good stretch
  unfolding amounts_good
  amounts_bad low bad = simp (every_bad (λ i. within 1 10000000 (flow_amount stretch i)) (flow_count stretch) j low bad)

  -- none does: the total decides
  pub amounts_end : (sum : ℕ) → j ≡ flow_count stretch → every (λ i. within 1 10000000 (flow_amount stretch i)) j ≡ true → sum ≡ total (flow_amount stretch) j
      → leb sum 10000000 ≡ amounts_good stretch
  unfolding amounts_good
  amounts_end sum end all is = rw (← end, is) (simp all)

-- ---- a bond's worth

module _ (curve : Curve) (stretch : List ℕ) (sound : SoundFlows curve stretch) (j : ℕ) (low : j < flow_count stretch) where
  days_rise : days_before stretch j ≤ flow_days stretch j
  days_rise =
      by_test (eqb j 0)
      (λ first. rw first (omega arith))
      (λ later. rw later (omega (arith, sound.rise (j - 1) j (omega (arith, eqb-false j 0 later)) low)))

  module _ {u d : ℕ} (days-are : d ≡ flow_days stretch j) where
    -- the first vertex at or past the flow before lies no further than the flow's own
    pub walk : u ≤ upper curve.vertices curve.index (days_before stretch j) → u ≤ upper curve.vertices curve.index d
    walk reached = rw days-are (omega (arith, reached, upper_rises curve.vertices curve.index (days_before stretch j) (flow_days stretch j) days_rise))

    module _ (is : u ≡ upper curve.vertices curve.index d) where
      -- by the vertex at or past its days
      pub worth_is : {a r : ℕ} → a ≡ flow_amount stretch j → r ≡ worth_of a (price_from curve.vertices curve.prices curve.history u d) → r ≡ worth curve stretch j
      unfolding worth price_for
      worth_is amount e = e ∙ rw (amount, is, days-are)

      -- the next flow's vertex lies no earlier
      pub walk_next : u ≤ upper curve.vertices curve.index (days_before stretch (j + 1))
      walk_next = le_of_eq (is ∙ ap (upper curve.vertices curve.index) (days-are ∙ days_next stretch j))

module _ (curve : Curve) (stretch : List ℕ) (j : ℕ) where
  -- a flow has a worth: so has the bond
  pub some_worth : j < flow_count stretch → (worth curve stretch j ≡ 0 → ⊥) → false ≡ eqb (bond_worth curve stretch) 0
  unfolding bond_worth
  some_worth low some =
      sym (ne_eqb (worth_before curve stretch (flow_count stretch)) 0
      (λ none. some (omega (arith, none, worth_rises curve stretch (j + 1) (flow_count stretch) (omega arith), worth_next curve stretch j))))

  -- the next has none either
  pub still_none : worth_before curve stretch j ≡ 0 → worth curve stretch j ≡ 0 → worth_before curve stretch (j + 1) ≡ 0
  still_none before own = omega (arith, before, own, worth_next curve stretch j)

  -- none has: nor has the bond
  pub no_worth : j ≡ flow_count stretch → worth_before curve stretch j ≡ 0 → true ≡ eqb (bond_worth curve stretch) 0
  unfolding bond_worth
  no_worth end none = sym (eq-eqb (worth_before curve stretch (flow_count stretch)) 0 (rw (← end) none))

-- ---- a bond's code

-- the last vertex lies in the section
pub last_fits : (curve : Curve) → PricedCurve curve → 4 * last_of curve.vertices curve.index + 4 ≤ length curve.vertices
last_fits curve priced = omega (arith, last_is curve.vertices curve.index priced.vertices_in.0)

module _ (curve : Curve) (stretch : List ℕ) (last : ℕ) (is : last ≡ vertex_days curve.vertices (last_of curve.vertices curve.index)) where
  pub code_14 : days_good stretch last ≡ false → 14 ≡ flows_code curve stretch
  unfolding flows_code
  code_14 bad = simp (rw is at bad)

  module _ (days : days_good stretch last ≡ true) where
    days_held : days_good stretch (vertex_days curve.vertices (last_of curve.vertices curve.index)) ≡ true
    days_held = rw (← is) days

    pub code_15 : amounts_good stretch ≡ false → 15 ≡ flows_code curve stretch
    unfolding flows_code
    code_15 bad = simp (days_held, bad)

    module _ (amounts : amounts_good stretch ≡ true) where
      pub code_16 : eqb (bond_worth curve stretch) 0 ≡ true → 16 ≡ flows_code curve stretch
      unfolding flows_code
      code_16 none = simp (days_held, amounts, none)

      pub code_good : eqb (bond_worth curve stretch) 0 ≡ false → 0 ≡ flows_code curve stretch
      unfolding flows_code
      code_good some = simp (days_held, amounts, some)

      -- 14 and 15 passed
      pub flows_ready : ReadBond curve stretch → SoundFlows curve stretch
      flows_ready read = flows_sound curve stretch read.known read.form days_held amounts

-- a bond of a market that passed 1 to 13
pub read_bond : (m : Market) (i : ℕ) → Sound m → i < bond_count m.bonds → ReadBond (curve_of m i) (bond_flows m i)
read_bond m i sound low = record { known = curve_known m sound i low; form = stretch_form m sound i low }

-- bond i's code
abbrev pub bond_code : Market → ℕ → ℕ
bond_code m i = flows_code (curve_of m i) (bond_flows m i)

module _ (m : Market) (i : ℕ) (reached : Reached (bond_code m) (bond_count m.bonds) i) where
  -- bond i is refused
  pub bond_refused : {number item : ℕ} → i < bond_count m.bonds → Refused number item ≡ judged (bond_code m i) i → Refused number item ≡ check_bond_flows m
  unfolding check_bond_flows
  bond_refused low is = reached_refused (bond_code m) (bond_count m.bonds) i reached low is

  -- no bond is
  pub bonds_end : bond_count m.bonds ≤ i → Passed ≡ check_bond_flows m
  unfolding check_bond_flows
  bonds_end end = reached_end (bond_code m) (bond_count m.bonds) i reached end

-- ---- the positions

-- an item that is found good has the code 0
judged_passed : (code i : ℕ) → Passed ≡ judged code i → code ≡ 0
judged_passed code i e =
    by_test (eqb code 0)
    (λ t. eqb-true code 0 t)
    (λ f. absurd (refused_not_passed (sym (e ∙ judged_bad code i (eqb-false code 0 f)))))

module _ (bonds : List ℕ) (r : Position) where
  pub position_18 : bond_count bonds ≤ r.bond → 18 ≡ position_code bonds r
  unfolding position_code
  position_18 bad = simp (le-ltb _ _ bad)

  module _ (known : r.bond < bond_count bonds) where
    pub position_19 : 10000000000 < nat_abs r.nominal → 19 ≡ position_code bonds r
    unfolding position_code
    position_19 bad = simp (lt-ltb _ _ known, lt-leb _ _ bad)

    pub position_good : nat_abs r.nominal ≤ 10000000000 → 0 ≡ position_code bonds r
    unfolding position_code
    position_good good = simp (lt-ltb _ _ known, le-leb _ _ good)

-- nominal × dirty price fits 64 bits
pub nominal_price : (nominal : ℤ) (price : ℕ) → nat_abs nominal ≤ 10000000000 → price ≤ 2000000 → nat_abs (nominal *ℤ pos price) ≤ 20000000000000000
nominal_price nominal price n-small p-small =
    rw (nat_abs_mul nominal (pos price)) (mul-le-mul {n₂ = 10000000000} {m₂ = 2000000} n-small p-small)

-- as 64 bits hold it
pub product_held : (nominal : ℤ) (price : ℕ) {z : ℤ} → nat_abs nominal ≤ 10000000000 → price ≤ 2000000 → mag z < 2 ^ 63 → z ≡ pos price
    → to_z w64 (of_z w64 (to_z w64 (of_z w64 nominal) *ℤ to_z w64 (of_z w64 z))) ≡ nominal *ℤ pos price
product_held nominal price {z} n-small p-small told is =
    let factors : to_z w64 (of_z w64 nominal) *ℤ to_z w64 (of_z w64 z) ≡ nominal *ℤ pos price =
    rw (to_z-of_z {w = w64} (size_fits w64 nominal (omega (arith, n-small))), came w64 z told is) in
    to_z-of_z {w = w64} (rw factors (size_fits w64 _ (omega (arith, nominal_price nominal price n-small p-small)))) ∙ factors

-- a position by its two fields
pub position_is : (positions : List ℕ) (p : ℕ) {b : ℕ} {z : ℤ} → b ≡ position_bond positions p → z ≡ position_nominal positions p → position b z ≡ position_at positions p
unfolding position_at
position_is positions p bond nominal = rw (bond, nominal)

-- no position has no value
pub values_none : (bonds positions : List ℕ) → 0 ≡ value_total bonds positions 0
unfolding value_total
values_none bonds positions = sym (sum_none ◌+◌ 0 _)

-- one position more
pub values_next : (bonds positions : List ℕ) (p : ℕ) → value_total bonds positions p + nat_abs (value bonds (position_at positions p)) ≡ value_total bonds positions (p + 1)
unfolding value_total
values_next bonds positions p = sym (sum_next ◌+◌ 0 _ p)

-- position p's code
abbrev pub code_at : List ℕ → List ℕ → ℕ → ℕ
code_at bonds positions p = position_code bonds (position_at positions p)

-- a position's value, by the fields that the code reads
pub value_is : (bonds : List ℕ) (r s : Position) {x : ℕ} {y : ℤ} → r ≡ s → x ≡ dirty_price bonds r.bond → y ≡ value_of r.nominal x → y ≡ value bonds s
unfolding value
value_is bonds r s same price is = is ∙ rw (price, same)

-- a position that passed 18 and 19
pub judged_sound : (bonds : List ℕ) (r : Position) (p : ℕ) → Passed ≡ judged (position_code bonds r) p → (r.bond < bond_count bonds) × (nat_abs r.nominal ≤ 10000000000)
judged_sound bonds r p e = code_passed bonds r (judged_passed (position_code bonds r) p e)

module _ (bonds positions : List ℕ) (n p : ℕ) (reached : Reached (code_at bonds positions) n p) where
  -- position p is refused
  pub position_refused : {number item : ℕ} (v : Finding) → p < n → Refused number item ≡ judged (code_at bonds positions p) p
      → Refused number item ≡ and_then (first_failing (code_at bonds positions) n 0) v
  position_refused v low is = ap (λ (d : Finding). and_then d v) (reached_refused (code_at bonds positions) n p reached low is)

  -- none fails: the total decides
  pub positions_end : (r : Finding) (sizes : ℕ) → n ≤ p → sizes ≡ value_total bonds positions p → r ≡ total_finding sizes
      → r ≡ and_then (first_failing (code_at bonds positions) n 0) (total_finding (value_total bonds positions n))
  positions_end r sizes end is e =
      let same : p ≡ n = omega (arith, end, reached.bound) in
      let whole : sizes ≡ value_total bonds positions n = is ∙ ap (value_total bonds positions) same in
      e ∙ (ap total_finding whole ∙ ap (λ (d : Finding). and_then d (total_finding (value_total bonds positions n))) (reached_end (code_at bonds positions) n p reached end))

-- the positions' form holds, or does not
pub form_whole : (positions : List ℕ) → (eqb (length positions % 12) 0 && within 0 4096 (position_count positions)) ≡ positions_form positions
form_whole positions = simp (le-leb 0 (position_count positions) (omega arith))

pub form_good : (bonds positions : List ℕ) (r : Finding) → positions_form positions ≡ true
    → r ≡ and_then (first_failing (code_at bonds positions) (position_count positions) 0) (total_finding (value_total bonds positions (position_count positions)))
    → r ≡ check_positions bonds positions
unfolding check_positions
form_good bonds positions r good e = simp good e

pub form_bad : (bonds positions : List ℕ) → positions_form positions ≡ false → Refused 17 0 ≡ check_positions bonds positions
unfolding check_positions
form_bad bonds positions bad = simp bad
