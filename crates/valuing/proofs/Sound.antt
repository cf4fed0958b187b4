-- A book that passed 1 to 20 keeps the ranges of its flows, of its bonds' worth and of its positions.
-- Assumes nothing.
use Rattle.std.specs.Prelude.{if◌then◌else◌}
use Prim.Native.Nat.{ℕ, ◌+◌, ◌-◌, ◌*◌, ◌≤◌, ◌<◌}
use mathlib.Core.Bool.{Bool, true, false, ◌&&◌}
use mathlib.Core.List.{List}
use mathlib.Core.Path.{◌≡◌, refl, ap}
use native.Mathlib.Nat.{mul-le-mul}
use native.Mathlib.Numerals.{add-one}
use native.Mathlib.Omega.{arith}
use borrow.Author.Tests.{ltb-true, leb-true, eqb-true, eqb-false, ne_eqb, le-leb}
use lib.Dec.{leb, ltb, eqb}
use lib.IntN.{ℤ, pos, nat_abs, ◌*ℤ◌}
use lib.ListN.{length}
use Rattle.numbers.specs.Conditions.{within, In}
use Rattle.numbers.specs.Items.{and_then, first_failing, every, total}
use Rattle.numbers.specs.Findings.{Passed}
use Rattle.numbers.proofs.Buffers.{part_length}
use Rattle.numbers.proofs.Items.{in_range_lem, both, both_passed, each, every_each, pass_total, total-zero}
use Rattle.numbers.proofs.Rounding.{nearest-le}
use Rattle.numbers.proofs.Signs.{nat_abs_mul, nat_abs_nearest}
use Rattle.reading.specs.Bonds.{bond_count, dirty_price, first_flow, flow_count_of}
use Rattle.reading.specs.Book.{Market, market_of, positions_of}
use Rattle.reading.specs.Check.{check_market, check_sections}
use Rattle.reading.specs.Flows.{flow_days, flow_zero, flow_amount}
use Rattle.reading.specs.InnerContracts.{Records, Sound}
use Rattle.reading.specs.Stretch.{flows_of}
use Rattle.reading.specs.Vertices.{vertex_days, has_curve}
use Rattle.reading.proofs.Forms.{passed_then, good_then, whole_records}
use Rattle.reading.proofs.Sound.{from_next, market_sound, book_passed}
use Rattle.valuing.specs.Check.{days_before, flow_good, days_good, amounts_good, flows_code, check_bond_flows, check_valued}
use Rattle.valuing.specs.Curves.{Curve, curve_of, last_of}
use Rattle.valuing.specs.Order.{whole_positions}
use Rattle.valuing.specs.Positions.{Position, position_count, position_at, value_of, value, value_total, positions_form, position_code, total_finding, check_positions}
use Rattle.valuing.specs.InnerContracts.{SoundCurve, SoundFlows, ValuedBond, SoundPosition, SoundPositions, Valued}
use Rattle.valuing.specs.Split.{bond_flows, flow_count, bond_worth}
use Rattle.valuing.proofs.Pricing.{covered, neighbours, sound_priced, worth_at_most}

-- ---- a bond of a sound market

module _ (m : Market) (s : Sound m) where
  -- its curve is sound
  pub curve_sound : (i : ℕ) → SoundCurve (curve_of m i)
  unfolding curve_of
  curve_sound i = record { vertices = s.vertices; prices = s.prices; history_in = s.parameters.history_in }

  -- there is its curve
  pub curve_known : (i : ℕ) → i < bond_count m.bonds → has_curve (curve_of m i).vertices (curve_of m i).index ≡ true
  unfolding curve_of
  curve_known i low = (s.bonds.bond i low).curve

  stretch_length : (i : ℕ) → i < bond_count m.bonds → length (bond_flows m i) ≡ flow_count_of m.bonds i * 8
  unfolding bond_flows flows_of
  stretch_length i low =
      part_length m.flows (first_flow m.bonds i * 8) (flow_count_of m.bonds i * 8)
      (omega (arith, (s.bonds.bond i low).last, s.flows_size))

  -- its stretch holds as many flows as it says
  pub stretch_count : (i : ℕ) → i < bond_count m.bonds → flow_count (bond_flows m i) ≡ flow_count_of m.bonds i
  stretch_count i low = omega (arith, stretch_length i low)

  -- and is 1 to 120 whole flows
  pub stretch_form : (i : ℕ) → i < bond_count m.bonds → Records (bond_flows m i) 8 1 120
  stretch_form i low =
      let n = (s.bonds.bond i low).count_in in
      record {
        whole = omega (arith, stretch_length i low);
        count = (omega (arith, stretch_length i low, n.0), omega (arith, stretch_length i low, n.1));
      }

-- ---- a bond's flows

module _ (stretch : List ℕ) where
  -- the next flow's days must lie past this one's
  pub days_next : (j : ℕ) → flow_days stretch j ≡ days_before stretch (j + 1)
  days_next j =
      let back : j ≡ j + 1 - 1 = omega arith in
      rw (ne_eqb (j + 1) 0 (λ e. omega (arith, e))) (ap (flow_days stretch) back)

  flow_days_lem : (last : ℕ) → days_good stretch last ≡ true → (j : ℕ) → j < flow_count stretch
      → (days_before stretch j < flow_days stretch j) × (flow_days stretch j ≤ last)
  unfolding days_good
  flow_days_lem last good j low =
      let before = days_before stretch j in
      let days = flow_days stretch j in
      let h1 = both (eqb (flow_zero stretch j) 0) (ltb before days && leb days last) (every_each (flow_good stretch last) (flow_count stretch) good j low) in
      let h2 = both (ltb before days) (leb days last) h1.1 in
      (ltb-true before days h2.0, leb-true days last h2.1)

  -- 14: days are at least 1 and at most the last, and they rise
  pub days_sound : (last : ℕ) → days_good stretch last ≡ true
      → ((j : ℕ) → j < flow_count stretch → In 1 last (flow_days stretch j))
      × ((i j : ℕ) → i < j → j < flow_count stretch → flow_days stretch i < flow_days stretch j)
  days_sound last good = (
    λ j low. let h = flow_days_lem last good j low in (omega (arith, h.0), h.1),
    from_next (λ i j. flow_days stretch i < flow_days stretch j) (flow_count stretch) (λ a b c p q. omega arith)
        (λ i low. rw (← add-one i) (omega (arith, (flow_days_lem last good (i + 1) (omega arith)).0, days_next i))),
  )

  -- 15: amounts and their total are in their ranges
  pub amounts_sound : amounts_good stretch ≡ true
      → ((j : ℕ) → j < flow_count stretch → In 1 10000000 (flow_amount stretch j)) × (total (flow_amount stretch) (flow_count stretch) ≤ 10000000)
  unfolding amounts_good
  amounts_sound good =
      let test : ℕ → Bool = λ j. within 1 10000000 (flow_amount stretch j) in
      let sum = total (flow_amount stretch) (flow_count stretch) in
      let h = both (every test (flow_count stretch)) (leb sum 10000000) good in
      (λ j low. in_range_lem 1 10000000 (flow_amount stretch j) (every_each test (flow_count stretch) h.0 j low), leb-true sum 10000000 h.1)

module _ (curve : Curve) (stretch : List ℕ) where
  -- flows that passed 14 and 15
  pub flows_sound : has_curve curve.vertices curve.index ≡ true → Records stretch 8 1 120
      → days_good stretch (vertex_days curve.vertices (last_of curve.vertices curve.index)) ≡ true → amounts_good stretch ≡ true → SoundFlows curve stretch
  flows_sound known form days amounts =
      let d = days_sound stretch (vertex_days curve.vertices (last_of curve.vertices curve.index)) days in
      let a = amounts_sound stretch amounts in
      record {
        form = form;
        days = λ j low. (d.0 j low).0;
        rise = d.1;
        lies = λ j low. neighbours curve.vertices curve.index (flow_days stretch j) (covered curve.vertices curve.index (flow_days stretch j) known (d.0 j low).1);
        amount_in = a.0;
        amount_total = a.1;
      }

  -- the code is 0: the days and the amounts are good, and the bond's worth is not 0
  code_zero : flows_code curve stretch ≡ 0
      → (days_good stretch (vertex_days curve.vertices (last_of curve.vertices curve.index)) ≡ true) × (amounts_good stretch ≡ true) × (1 ≤ bond_worth curve stretch)
  unfolding flows_code
  code_zero e =
      let inner : ℕ = if eqb (bond_worth curve stretch) 0 then 16 else 0 in
      let h1 = good_then (days_good stretch (vertex_days curve.vertices (last_of curve.vertices curve.index))) (if amounts_good stretch then inner else 15) 13 e in
      let h2 = good_then (amounts_good stretch) inner 14 h1.1 in
      let some : bond_worth curve stretch ≡ 0 → ⊥ = eqb-false (bond_worth curve stretch) 0 (none_found (eqb (bond_worth curve stretch) 0) h2.1) in
      (h1.0, h2.0, omega arith)
    where
      none_found : (b : Bool) → ◌≡◌ {A = ℕ} (if b then 16 else 0) 0 → b ≡ false
      none_found true z = absurd (let no : ◌≡◌ {A = ℕ} 16 0 = z in omega arith)
      none_found false z = refl

  -- a bond that passed 14 to 16
  pub bond_sound : SoundCurve curve → has_curve curve.vertices curve.index ≡ true → Records stretch 8 1 120 → flows_code curve stretch ≡ 0 → ValuedBond curve stretch
  bond_sound sound-curve known form e =
      let h = code_zero e in
      let sound : SoundFlows curve stretch = flows_sound known form h.0 h.1 in
      record { sound_curve = sound-curve; sound_flows = sound; worth_in = (h.2, worth_at_most curve stretch (sound_priced curve sound-curve) sound) }

-- the bonds' flows passed 14 to 16
pub bonds_sound : (m : Market) → Sound m → check_bond_flows m ≡ Passed → (i : ℕ) → i < bond_count m.bonds → ValuedBond (curve_of m i) (bond_flows m i)
unfolding check_bond_flows
bonds_sound m s e i low =
    bond_sound (curve_of m i) (bond_flows m i) (curve_sound m s i) (curve_known m s i low) (stretch_form m s i low)
    (each (λ j. flows_code (curve_of m j) (bond_flows m j)) (bond_count m.bonds) 0 e i (omega arith) (omega arith))

-- ---- the positions

-- a nominal and a price in their ranges have a value of at most 20,000,000,000
pub value_in_lem : (nominal : ℤ) (price : ℕ) → nat_abs nominal ≤ 10000000000 → price ≤ 2000000 → nat_abs (value_of nominal price) ≤ 20000000000
unfolding value_of
value_in_lem nominal price n p =
    rw (nat_abs_nearest (nominal *ℤ pos price) 1000000, nat_abs_mul nominal (pos price))
    (nearest-le (nat_abs nominal * price) 1000000 20000000000 (omega arith) (omega (arith, mul-le-mul n p)))

-- 18 and 19 passed
pub code_passed : (bonds : List ℕ) (r : Position) → position_code bonds r ≡ 0 → (r.bond < bond_count bonds) × (nat_abs r.nominal ≤ 10000000000)
unfolding position_code
code_passed bonds r e =
    let h1 = good_then (ltb r.bond (bond_count bonds)) (if leb (nat_abs r.nominal) 10000000000 then 0 else 19) 17 e in
    let h2 = good_then (leb (nat_abs r.nominal) 10000000000) 0 18 h1.1 in
    (ltb-true r.bond (bond_count bonds) h1.0, leb-true (nat_abs r.nominal) 10000000000 h2.0)

-- a position that passed 18 and 19
pub position_sound : (m : Market) (r : Position) → Sound m → position_code m.bonds r ≡ 0 → SoundPosition m r
unfolding value
position_sound m r s e =
    let h = code_passed m.bonds r e in
    record {
      bond_is = h.0;
      nominal_in = h.1;
      value_in = value_in_lem r.nominal (dirty_price m.bonds r.bond) h.1 (s.bonds.bond r.bond h.0).price.1;
    }

-- the codes' total
abbrev pub codes : List ℕ → List ℕ → ℕ
codes bonds s = total (λ p. position_code bonds (position_at s p)) (position_count s)

-- the total of the values' sizes
abbrev pub sizes : List ℕ → List ℕ → ℕ
sizes bonds s = value_total bonds s (position_count s)

-- what 17 to 20 ask
pub record Accepted (bonds : List ℕ) (s : List ℕ) : Type 0 where
  pub whole : whole_positions s ≡ true
  pub count : In 0 4096 (position_count s)
  pub good : codes bonds s ≡ 0
  pub small : sizes bonds s ≤ 100000000000

-- positions that passed have it
pub accepted : (bonds : List ℕ) (s : List ℕ) → check_positions bonds s ≡ Passed → Accepted bonds s
unfolding check_positions total_finding
accepted bonds s e =
    let code : ℕ → ℕ = λ p. position_code bonds (position_at s p) in
    let h1 = passed_then (positions_form s) (and_then (first_failing code (position_count s) 0) (total_finding (sizes bonds s))) 17 0 e in
    let form = both (whole_positions s) (within 0 4096 (position_count s)) h1.0 in
    let h2 = both_passed (first_failing code (position_count s) 0) (total_finding (sizes bonds s)) h1.1 in
    let h3 = passed_then (leb (sizes bonds s) 100000000000) Passed 20 0 h2.1 in
    record {
      whole = form.0;
      count = in_range_lem 0 4096 (position_count s) form.1;
      good = (pass_total code (position_count s)).0 h2.0;
      small = leb-true (sizes bonds s) 100000000000 h3.0;
    }

-- positions that have it pass
pub accepted_passed : (bonds : List ℕ) (s : List ℕ) → Accepted bonds s → check_positions bonds s ≡ Passed
unfolding check_positions total_finding
accepted_passed bonds s a =
    let code : ℕ → ℕ = λ p. position_code bonds (position_at s p) in
    rw (
      a.whole,
      le-leb 0 (position_count s) a.count.0,
      le-leb (position_count s) 4096 a.count.1,
      (pass_total code (position_count s)).1 a.good,
      le-leb (sizes bonds s) 100000000000 a.small,
    )

-- the positions passed 17 to 20
pub positions_sound : (m : Market) (positions : List ℕ) → Sound m → check_positions m.bonds positions ≡ Passed → SoundPositions m positions
positions_sound m positions s e =
    let code : ℕ → ℕ = λ p. position_code m.bonds (position_at positions p) in
    let a : Accepted m.bonds positions = accepted m.bonds positions e in
    record {
      form = record { whole = whole_records (length positions) 12 (eqb-true _ _ a.whole); count = a.count };
      position = λ p low. position_sound m (position_at positions p) s (total-zero code (position_count positions) a.good p low);
      total_in = a.small;
    }

-- ---- the book

-- a market and positions that passed 3 to 20
pub valued_market : (m : Market) (positions : List ℕ) → check_market m ≡ Passed → check_bond_flows m ≡ Passed → check_positions m.bonds positions ≡ Passed → Valued m positions
valued_market m positions market worth last =
    let s : Sound m = market_sound m market in
    record { market = s; bond = bonds_sound m s worth; positions = positions_sound m positions s last }

-- of a book that passed 1 to 20, 1 to 13 passed
pub sections_passed : (book : List ℕ) → check_valued book ≡ Passed → check_sections book ≡ Passed
unfolding check_valued
sections_passed book e = (both_passed (check_sections book) (and_then (check_bond_flows (market_of book)) (check_positions (market_of book).bonds (positions_of book))) e).0

-- a book that passed 1 to 20
pub valued : (book : List ℕ) → check_valued book ≡ Passed → Valued (market_of book) (positions_of book)
unfolding check_valued
valued book e =
    let m = market_of book in
    let h1 = both_passed (check_sections book) (and_then (check_bond_flows m) (check_positions m.bonds (positions_of book))) e in
    let h2 = both_passed (check_bond_flows m) (check_positions m.bonds (positions_of book)) h1.1 in
    valued_market m (positions_of book) (book_passed book h1.0).1 h2.0 h2.1
