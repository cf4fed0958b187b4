-- What the code's walk over a bond's flows wants: the parts of a share, and what is added to the exposures.
-- Assumes nothing.
use Rattle.std.specs.Prelude.{if◌then◌else◌}
use Prim.Native.Nat.{ℕ, ◌+◌, ◌-◌, ◌*◌, ◌/◌, ◌≤◌, ◌<◌, ◌^◌}
use mathlib.Core.Bool.{Bool}
use mathlib.Core.List.{List}
use mathlib.Core.Path.{◌≡◌, refl, sym, ap, ◌∙◌, subst}
use native.Mathlib.Omega.{arith}
use borrow.Author.Tests.{eq-eqb, ne_eqb, eqb-true, eqb-false}
use lib.Dec.{eqb}
use lib.IntN.{ℤ, pos, nat_abs, ◌+ℤ◌, ◌-ℤ◌, +ℤ_idl, +ℤ_idr, +ℤ-neg_ℤ_cancel}
use lib.ListN.{length, take, get_or, set, length-set, length-take}
use lib.Seq.{get_or-set_other, get_or-take}
use lib.Signed.{mag}
use mir.Facts.{to_z-of_z}
use mir.Syntax.{w64}
use mir.Val.{SFits, to_z, of_z}
use Rattle.numbers.specs.InnerContracts.{added}
use Rattle.numbers.specs.Items.{total_z}
use Rattle.numbers.specs.Rounding.{negative, with_sign}
use Rattle.numbers.proofs.Buffers.{StoredTo, added_added, added_same, added_none, added_at, added-set}
use Rattle.numbers.proofs.Items.{by_test, sum_none, sum_next}
use Rattle.numbers.proofs.Signs.{came, size_fits, sign_size, nat_abs-add, nat_abs_with_sign, with_sign-zero, with_sign-add}
use Rattle.reading.specs.Book.{Market}
use Rattle.reading.specs.Flows.{flow_days}
use Rattle.reading.specs.Vertices.{vertex_count}
use Rattle.valuing.specs.Curves.{Curve, curve_of, upper}
use Rattle.valuing.specs.declared.rows.Row.{Row}
use Rattle.valuing.specs.Mapping.{lower_size, part_size, mapped, mapped_value, position_exposure}
use Rattle.valuing.specs.InnerContracts.{Neighbours, SoundFlows, ValuedBond, RowIs, RowsFilled, Room}
use Rattle.valuing.specs.Positions.{Position, value}
use Rattle.valuing.specs.Split.{bond_flows, flow_count, worth, worth_before, bond_worth, floor_at, share_size, share}
use Rattle.valuing.proofs.Mapping.{lower_within, lower_first, flow_part, partial_bound}
use Rattle.valuing.proofs.Pricing.{worth_rises, worth_next}
use Rattle.valuing.proofs.Split.{floor_rises, floor_within}

-- ---- the parts of a share

-- a size less another, with one sign
less_size : (s : Bool) (a b : ℕ) → b ≤ a → with_sign s a -ℤ with_sign s b ≡ with_sign s (a - b)
less_size s a b within =
    let whole : a ≡ a - b + b = omega arith in
    ap (λ (n : ℕ). with_sign s n -ℤ with_sign s b) whole
    ∙ (ap (λ (z : ℤ). z -ℤ with_sign s b) (with_sign-add s (a - b) b) ∙ +ℤ-neg_ℤ_cancel (with_sign s (a - b)) (with_sign s b))

-- the parts at a vertex: the rest at u, the lower part at the vertex below
parts_at : (vertices : List ℕ) (u d size v : ℕ) (s : Bool) → 1 ≤ u
    → (if eqb v u then with_sign s (size - lower_size vertices u d size) else pos 0) +ℤ (if eqb v (u - 1) then with_sign s (lower_size vertices u d size) else pos 0)
    ≡ with_sign s (part_size vertices u d size v)
unfolding part_size
parts_at vertices u d size v s some =
    by_test (eqb v u)
    (λ t.
    let other : v ≡ u - 1 → ⊥ = λ e. omega (arith, e, eqb-true v u t) in
    rw (t, ne_eqb v (u - 1) other) (+ℤ_idr (with_sign s (size - lower_size vertices u d size))))
    (λ f. by_test (eqb v (u - 1))
    (λ t.
    let next : v + 1 ≡ u = omega (arith, eqb-true v (u - 1) t) in
    rw (f, t, eq-eqb (v + 1) u next) (+ℤ_idl (with_sign s (lower_size vertices u d size))))
    (λ g.
    let other : v + 1 ≡ u → ⊥ = λ e. eqb-false v (u - 1) g (omega (arith, e)) in
    rw (f, g, ne_eqb (v + 1) u other) (sym (with_sign-zero s))))

-- with no lower part all is at u
part_alone : (vertices : List ℕ) (u d size v : ℕ) (s : Bool) → lower_size vertices u d size ≡ 0
    → (if eqb v u then with_sign s (size - lower_size vertices u d size) else pos 0) ≡ with_sign s (part_size vertices u d size v)
unfolding part_size
part_alone vertices u d size v s none =
    by_test (eqb v u)
    (λ t. rw t)
    (λ f. by_test (eqb (v + 1) u) (λ t. rw (f, t, none) (sym (with_sign-zero s))) (λ g. rw (f, g) (sym (with_sign-zero s))))

-- the lower part of a share's size, with the share's sign
pub lower_part_is : (vertices : List ℕ) (u d : ℕ) (share : ℤ) {s : Bool} {m q : ℕ} {r : ℤ} → s ≡ negative share → m ≡ nat_abs share → q ≡ lower_size vertices u d m → r ≡ with_sign s q
    → r ≡ with_sign (negative share) (lower_size vertices u d (nat_abs share))
lower_part_is vertices u d share sign size low is = is ∙ rw (sign, low, size)

module _ (vertices : List ℕ) (u d : ℕ) (share lower : ℤ) (near : Neighbours vertices u d)
    (is : lower ≡ with_sign (negative share) (lower_size vertices u d (nat_abs share))) where
  -- its size is within the share's
  pub lower_part_within : nat_abs lower ≤ nat_abs share
  lower_part_within = rw (is, nat_abs_with_sign (negative share) (lower_size vertices u d (nat_abs share))) (lower_within vertices u d (nat_abs share) near)

  -- the share less its lower part: the rest, with the share's sign
  rest_is : share -ℤ lower ≡ with_sign (negative share) (nat_abs share - lower_size vertices u d (nat_abs share))
  rest_is =
      ap (λ (z : ℤ). share -ℤ z) is
      ∙ (ap (λ (z : ℤ). z -ℤ with_sign (negative share) (lower_size vertices u d (nat_abs share))) (sym (sign_size share))
      ∙ less_size (negative share) (nat_abs share) (lower_size vertices u d (nat_abs share)) (lower_within vertices u d (nat_abs share) near))

  -- it is within the share
  pub rest_within : nat_abs (share -ℤ lower) ≤ nat_abs share
  rest_within = rw (rest_is, nat_abs_with_sign (negative share) (nat_abs share - lower_size vertices u d (nat_abs share))) (omega arith)

  -- it is not 0: u has a vertex below it
  pub lower_some : (lower ≡ pos 0 → ⊥) → 1 ≤ u
  lower_some some =
      by_test (eqb u 0)
      (λ t. absurd (some (is ∙ (ap (with_sign (negative share)) (lower_first vertices u d (nat_abs share) (eqb-true u 0 t)) ∙ with_sign-zero (negative share)))))
      (λ f. omega (arith, eqb-false u 0 f))

  module _ (old first : List ℤ) (fits : vertex_count vertices ≤ length old) (rest : first ≡ set old u (get_or old u (pos 0) +ℤ (share -ℤ lower))) where
    -- the first store
    first_added : first ≡ added (λ v. if eqb v u then with_sign (negative share) (nat_abs share - lower_size vertices u d (nat_abs share)) else pos 0) (vertex_count vertices) old
    first_added =
        rest ∙ rw rest_is
        (added-set u (vertex_count vertices) old (with_sign (negative share) (nat_abs share - lower_size vertices u d (nat_abs share))) near.is_vertex fits)

    -- the rest alone
    pub mapped_one : lower ≡ pos 0 → first ≡ added (mapped vertices u d share) (vertex_count vertices) old
    unfolding mapped
    mapped_one none =
        let zero-lower : lower_size vertices u d (nat_abs share) ≡ 0 =
        sym (nat_abs_with_sign (negative share) (lower_size vertices u d (nat_abs share))) ∙ ap nat_abs (sym is ∙ none) in
        first_added
        ∙ added_same (λ v. if eqb v u then with_sign (negative share) (nat_abs share - lower_size vertices u d (nat_abs share)) else pos 0) (mapped vertices u d share) (vertex_count vertices) old
        (λ v low. part_alone vertices u d (nat_abs share) v (negative share) zero-lower)

    first-length : length first ≡ length old
    first-length = rw rest (length-set old u _)

    -- the entry below u is as it was
    pub below_held : 1 ≤ u → Room old (vertex_count vertices) 0 → nat_abs (get_or first (u - 1) (pos 0)) ≤ 100000000000
    below_held some room =
        let low : u - 1 < vertex_count vertices = omega (arith, near.is_vertex) in
        let kept : get_or first (u - 1) (pos 0) ≡ get_or old (u - 1) (pos 0) = rw rest (get_or-set_other old u (u - 1) _ (pos 0) (λ e. omega (arith, e))) in
        rw kept (omega (arith, room (u - 1) low))

    -- the rest, and the lower part
    pub mapped_two : (second : List ℤ) → 1 ≤ u → second ≡ set first (u - 1) (get_or first (u - 1) (pos 0) +ℤ lower)
        → second ≡ added (mapped vertices u d share) (vertex_count vertices) old
    unfolding mapped
    mapped_two second some low =
        let n = vertex_count vertices in
        let lower-size = lower_size vertices u d (nat_abs share) in
        let f : ℕ → ℤ = λ v. if eqb v u then with_sign (negative share) (nat_abs share - lower-size) else pos 0 in
        let g : ℕ → ℤ = λ v. if eqb v (u - 1) then with_sign (negative share) lower-size else pos 0 in
        let two : second ≡ added g n first =
        low ∙ rw is (added-set (u - 1) n first (with_sign (negative share) lower-size) (omega (arith, near.is_vertex)) (omega (arith, first-length))) in
        two ∙ (ap (added g n) first_added ∙ (added_added f g n old
        ∙ added_same (λ v. f v +ℤ g v) (mapped vertices u d share) n old (λ v below. parts_at vertices u d (nat_abs share) v (negative share) some)))

-- a share and its lower part, as 64 bits hold them
module _ (vertices : List ℕ) (u d : ℕ) (share : ℤ) {lower : ℤ} (held : SFits w64 share) (small : nat_abs share ≤ 20000000000) (near : Neighbours vertices u d)
    (told : mag lower < 2 ^ 63) (is : lower ≡ with_sign (negative (to_z w64 (of_z w64 share))) (lower_size vertices u d (nat_abs (to_z w64 (of_z w64 share))))) where
  pub lower_is : to_z w64 (of_z w64 lower) ≡ with_sign (negative share) (lower_size vertices u d (nat_abs share))
  lower_is = came w64 lower told (is ∙ ap (λ (z : ℤ). with_sign (negative z) (lower_size vertices u d (nat_abs z))) (to_z-of_z {w = w64} held))

  whole_rest : to_z w64 (of_z w64 share) -ℤ to_z w64 (of_z w64 lower) ≡ share -ℤ to_z w64 (of_z w64 lower)
  whole_rest = ap (λ (z : ℤ). z -ℤ to_z w64 (of_z w64 lower)) (to_z-of_z {w = w64} held)

  -- the rest fits
  pub rest_fits : SFits w64 (to_z w64 (of_z w64 share) -ℤ to_z w64 (of_z w64 lower))
  rest_fits = rw whole_rest (size_fits w64 _ (omega (arith, rest_within vertices u d share _ near lower_is, small)))

  pub rest_told : to_z w64 (of_z w64 (to_z w64 (of_z w64 share) -ℤ to_z w64 (of_z w64 lower))) ≡ share -ℤ to_z w64 (of_z w64 lower)
  rest_told = to_z-of_z {w = w64} rest_fits ∙ whole_rest

  -- it is small, and so is the lower part
  pub rest_small : nat_abs (to_z w64 (of_z w64 (to_z w64 (of_z w64 share) -ℤ to_z w64 (of_z w64 lower)))) ≤ 20000000000
  rest_small = rw rest_told (omega (arith, rest_within vertices u d share _ near lower_is, small))

  pub lower_small : nat_abs (to_z w64 (of_z w64 lower)) ≤ 20000000000
  lower_small = omega (arith, lower_part_within vertices u d share _ near lower_is, small)

  -- a lower part that is not 0 has a vertex
  pub lower_vertex : (of_z w64 lower ≡ of_z w64 (pos 0) → ⊥) → 1 ≤ u
  lower_vertex some =
      lower_some vertices u d share _ near lower_is
      (λ none. let zero : lower ≡ pos 0 = sym (came w64 lower told refl) ∙ none in some (ap (of_z w64) zero))

  -- the first store is the rest's
  pub rest_stored : (old first : List ℤ) → first ≡ set old u (get_or old u (pos 0) +ℤ to_z w64 (of_z w64 (to_z w64 (of_z w64 share) -ℤ to_z w64 (of_z w64 lower))))
      → first ≡ set old u (get_or old u (pos 0) +ℤ (share -ℤ to_z w64 (of_z w64 lower)))
  rest_stored old first e = e ∙ ap (λ (z : ℤ). set old u (get_or old u (pos 0) +ℤ z)) rest_told

-- ---- the worth up to a flow

module _ (curve : Curve) (stretch : List ℕ) (sound : ValuedBond curve stretch) (j : ℕ) (low : j < flow_count stretch) where
  -- no running total exceeds the bond's
  pub worth_small : worth_before curve stretch (j + 1) ≤ 20000000
  unfolding bond_worth
  worth_small = omega (arith, worth_rises curve stretch (j + 1) (flow_count stretch) (omega (arith, low)), sound.worth_in.1)

  module _ (sum own : ℕ) (before : sum ≡ worth_before curve stretch j) (is : own ≡ worth curve stretch j) where
    pub sum_next_is : sum + own ≡ worth_before curve stretch (j + 1)
    sum_next_is = rw (before, is) (sym (worth_next curve stretch j))

    pub sum_small : sum + own ≤ 20000000
    sum_small = rw sum_next_is worth_small

-- all rows are stored
pub rows_all : (curve : Curve) (stretch : List ℕ) (j : ℕ) (old now : List Row) → StoredTo (RowIs curve stretch) j old now → j ≡ flow_count stretch → flow_count stretch ≤ length old
    → RowsFilled curve stretch now
rows_all curve stretch j old now so end fits = record { fits = omega (arith, so.size); row = λ i low none. so.each i (omega (arith, end)) none }

-- row j that is read of the rows, one for each flow
module _ (curve : Curve) (stretch : List ℕ) {rows : List Row} (filled : RowsFilled curve stretch rows)
    {n : ℕ} (all : n ≡ flow_count stretch) (j : ℕ) (low : j < length (take n rows)) where
  pub row_low : j < flow_count stretch
  row_low = omega (arith, low, length-take n rows, all)

  module _ (none : Row) where
    pub row_item : RowIs curve stretch j (get_or (take n rows) j none)
    row_item = subst (RowIs curve stretch j) (sym (get_or-take n rows j none (omega (arith, row_low, all)))) (filled.row j row_low none)

    pub row_near : {u : ℕ} → SoundFlows curve stretch → u ≡ (get_or (take n rows) j none).upper → Neighbours curve.vertices u (get_or (take n rows) j none).days
    row_near sound u-is = rw (u-is, row_item.upper_is, row_item.days_are) (sound.lies j row_low)

-- after the last flow it is the bond's
pub sum_whole : (curve : Curve) (stretch : List ℕ) (j sum : ℕ) → j ≡ flow_count stretch → sum ≡ worth_before curve stretch j → sum ≡ bond_worth curve stretch
unfolding bond_worth
sum_whole curve stretch j sum end is = is ∙ ap (worth_before curve stretch) end

-- ---- the split of a value

module _ (curve : Curve) (stretch : List ℕ) (size j : ℕ) {r : Row} (row : RowIs curve stretch j r) {s b t next : ℕ}
    (s-is : s ≡ size) (b-is : b ≡ r.worth) (t-is : t ≡ bond_worth curve stretch) (is : next ≡ s * b / t) where
  -- the floor at the flow's end
  pub next_floor : next ≡ floor_at curve stretch size (j + 1)
  unfolding floor_at
  next_floor = is ∙ rw (s-is, b-is, row.worth_is, t-is)

  -- it is at least the floor at the flow's start, and within the size
  pub floors_ready : (floor : ℕ) → floor ≡ floor_at curve stretch size j → j < flow_count stretch → size ≤ 20000000000
      → (floor ≤ next) × (next ≤ 20000000000)
  floors_ready floor floor-is low small =
      rw (next_floor, floor-is) (floor_rises curve stretch size j, omega (arith, floor_within curve stretch size (j + 1) (omega (arith, low)), small))

-- a share is within its value
pub share_small : (curve : Curve) (stretch : List ℕ) (value : ℤ) (j : ℕ) → j < flow_count stretch → nat_abs (share curve stretch value j) ≤ nat_abs value
unfolding share share_size
share_small curve stretch value j low =
    rw (nat_abs_with_sign (negative value) (floor_at curve stretch (nat_abs value) (j + 1) - floor_at curve stretch (nat_abs value) j))
    (omega (arith, floor_within curve stretch (nat_abs value) (j + 1) (omega (arith, low))))

-- what lies between a flow's floors, with the value's sign, is its share
pub share_is : (curve : Curve) (stretch : List ℕ) (value : ℤ) (j floor next : ℕ) → floor ≡ floor_at curve stretch (nat_abs value) j → next ≡ floor_at curve stretch (nat_abs value) (j + 1)
    → (s : Bool) (z : ℤ) → s ≡ negative value → z ≡ with_sign s (next - floor) → z ≡ share curve stretch value j
unfolding share share_size
share_is curve stretch value j floor next floor-is next_is s z sign is = is ∙ rw (sign, floor-is, next_is)

-- what the first j flows bring vertex v
abbrev pub parts_up_to : Curve → List ℕ → ℤ → ℕ → ℕ → ℤ
parts_up_to curve stretch value j v = total_z (flow_part curve stretch value v) j

module _ (curve : Curve) (stretch : List ℕ) (value : ℤ) (old : List ℤ) where
  -- no flow yet
  pub parts_start : vertex_count curve.vertices ≤ length old → old ≡ added (parts_up_to curve stretch value 0) (vertex_count curve.vertices) old
  parts_start fits =
      added_none (vertex_count curve.vertices) old fits
      ∙ added_same (λ v. pos 0) (parts_up_to curve stretch value 0) (vertex_count curve.vertices) old (λ v low. sym (sum_none ◌+ℤ◌ (pos 0) (flow_part curve stretch value v)))

  module _ (j : ℕ) (held : List ℤ) (is : held ≡ added (parts_up_to curve stretch value j) (vertex_count curve.vertices) old) where
    -- the running sums never leave their range
    pub held_room : ValuedBond curve stretch → j ≤ flow_count stretch → Room old (vertex_count curve.vertices) (nat_abs value) → Room held (vertex_count curve.vertices) 0
    held_room sound low room v below-v =
        rw (is, added_at (parts_up_to curve stretch value j) (vertex_count curve.vertices) old v below-v)
        (omega (
          arith,
          nat_abs-add (get_or old v (pos 0)) (parts_up_to curve stretch value j v),
          partial_bound curve stretch sound.sound_flows sound.worth_in.0 value j v low,
          room v below-v,
        ))

    -- all flows
    pub parts_end : j ≡ flow_count stretch → held ≡ added (mapped_value curve stretch value) (vertex_count curve.vertices) old
    unfolding mapped_value
    parts_end end = is ∙ ap (λ (i : ℕ). added (parts_up_to curve stretch value i) (vertex_count curve.vertices) old) end

    -- one flow more
    pub parts_next : (new : List ℤ) (u d : ℕ) (z : ℤ) → u ≡ upper curve.vertices curve.index (flow_days stretch j) → d ≡ flow_days stretch j → z ≡ share curve stretch value j
        → new ≡ added (mapped curve.vertices u d z) (vertex_count curve.vertices) held
        → new ≡ added (parts_up_to curve stretch value (j + 1)) (vertex_count curve.vertices) old
    parts_next new u d z u-is d-is z-is e =
        let n = vertex_count curve.vertices in
        let own : ℕ → ℤ = λ v. flow_part curve stretch value v j in
        let new_is : new ≡ added own n held = rw (← u-is, ← d-is, ← z-is) e in
        new_is ∙ (ap (added own n) is ∙ (added_added (parts_up_to curve stretch value j) own n old
        ∙ added_same (λ v. parts_up_to curve stretch value j v +ℤ own v) (parts_up_to curve stretch value (j + 1)) n old
        (λ v low. sym (sum_next ◌+ℤ◌ (pos 0) (flow_part curve stretch value v) j))))

-- ---- a position

-- the parts of a position's value are its exposures
pub position_added : (m : Market) (r : Position) {curve : Curve} {stretch : List ℕ} {z : ℤ} (old new : List ℤ)
    → curve ≡ curve_of m r.bond → stretch ≡ bond_flows m r.bond → z ≡ value m.bonds r
    → new ≡ added (mapped_value curve stretch z) (vertex_count curve.vertices) old
    → new ≡ added (position_exposure m r) (vertex_count m.vertices) old
unfolding position_exposure curve_of added
position_added m r old new curve-is stretch-is z-is e = rw (curve-is, stretch-is, z-is) at e
