-- Exposures bond by bond: what is added along the positions that hold a bond, and that the bonds' exposures total those of all positions.
-- Assumes nothing.
use Rattle.std.specs.Prelude.{if◌then◌else◌}
use Prim.Native.Nat.{ℕ, ◌+◌, ◌-◌, ◌≤◌, ◌<◌}
use mathlib.Core.List.{List}
use mathlib.Core.Path.{◌≡◌, refl, sym, ap, ◌∙◌}
use native.Mathlib.Nat.{le_trans}
use native.Mathlib.Omega.{arith}
use lib.IntN.{ℤ, pos, nat_abs, ◌+ℤ◌, +ℤ_idr}
use lib.ListN.{length, get_or}
use Rattle.numbers.specs.Buffers.{filled}
use Rattle.numbers.specs.InnerContracts.{added}
use Rattle.numbers.specs.Items.{total, total_z}
use Rattle.numbers.proofs.Buffers.{added_added, added_same, added_none, added_at, added_filled, filled_below, filled-length, filled_same}
use Rattle.numbers.proofs.Counts.{sum_grouped}
use Rattle.numbers.proofs.Items.{naturals, integers, by_test, sum_none, sum_next, total_grows, total_size, total-le}
use Rattle.numbers.proofs.Signs.{nat_abs-add}
use Rattle.reading.specs.Bonds.{bond_count, dirty_price}
use Rattle.reading.specs.Book.{Market}
use Rattle.reading.specs.Vertices.{vertex_count}
use Rattle.valuing.specs.Curves.{Curve, curve_of}
use Rattle.valuing.specs.Mapping.{mapped_value, position_exposure, exposure_up_to, exposure}
use Rattle.valuing.specs.Positions.{Position, position_count, position_bond, position_at, value_of, value, value_total}
use Rattle.valuing.specs.InnerContracts.{Room, Valued, holds, next_holder, held_up_to, held_exposure, held_values, HeldRoom}
use Rattle.valuing.specs.Split.{bond_flows}
use Rattle.valuing.proofs.Adding.{position_added}
use Rattle.valuing.proofs.Chains.{holder_in, holder_holds, holder_gap, holder_next}
use Rattle.valuing.proofs.Checks.{value_is}
use Rattle.valuing.proofs.Mapping.{position_within}

-- a position's bond
pub bond_at : (positions : List ℕ) (p : ℕ) → (position_at positions p).bond ≡ position_bond positions p
unfolding position_at
bond_at positions p = refl

module _ (m : Market) (s : List ℕ) (i : ℕ) where
  abbrev size_at : ℕ → ℕ
  size_at q = nat_abs (value m.bonds (position_at s q))

  -- one position more that holds the bond
  held_next : (p v : ℕ) → position_bond s p ≡ i → held_up_to m s i (p + 1) v ≡ held_up_to m s i p v +ℤ position_exposure m (position_at s p) v
  held_next p v is = holder_next s i ◌+ℤ◌ (pos 0) (λ q. position_exposure m (position_at s q) v) p is

  sizes_next : (p : ℕ) → position_bond s p ≡ i → held_values m.bonds s i (p + 1) ≡ held_values m.bonds s i p + size_at p
  sizes_next p is = holder_next s i ◌+◌ 0 size_at p is

  -- none up to the next that does
  held_gap : (p v : ℕ) → p ≤ position_count s → held_up_to m s i (next_holder s i p) v ≡ held_up_to m s i p v
  held_gap p v low = holder_gap s i ◌+ℤ◌ (pos 0) integers (λ q. position_exposure m (position_at s q) v) p low

  -- the sizes of what a vertex gets are within the values'
  held_within : Valued m s → (p v : ℕ) → p ≤ position_count s → nat_abs (held_up_to m s i p v) ≤ held_values m.bonds s i p
  held_within valued p v low =
      le_trans (total_size (λ q. if holds s i q then position_exposure m (position_at s q) v else pos 0) p)
      (total-le _ _ p
      (λ q below.
      by_test (holds s i q)
      (λ t. rw t (position_within m s valued q (omega (arith, low, below)) v))
      (λ f. rw f (omega arith))))

  -- ---- a position that holds bond i

  module _ (p : ℕ) (is : position_bond s p ≡ i) where
    -- its value, by the fields and the price that the code reads
    pub held_value : {r : Position} {x : ℕ} {y : ℤ} → r ≡ position_at s p → x ≡ dirty_price m.bonds i → y ≡ value_of r.nominal x → y ≡ value m.bonds (position_at s p)
    held_value {r} same price e = value_is m.bonds r (position_at s p) same (price ∙ ap (dirty_price m.bonds) (sym (ap (λ (q : Position). q.bond) same ∙ (bond_at s p ∙ is)))) e

    -- the parts of the value are its exposures
    pub held_added : {curve : Curve} {stretch : List ℕ} {z : ℤ} (old new : List ℤ) → curve ≡ curve_of m i → stretch ≡ bond_flows m i → z ≡ value m.bonds (position_at s p)
        → new ≡ added (mapped_value curve stretch z) (vertex_count curve.vertices) old
        → new ≡ added (position_exposure m (position_at s p)) (vertex_count m.vertices) old
    held_added old new curve-is stretch-is z-is e =
        let own : i ≡ (position_at s p).bond = sym (bond_at s p ∙ is) in
        position_added m (position_at s p) old new (curve-is ∙ ap (curve_of m) own) (stretch-is ∙ ap (bond_flows m) own) z-is e

  -- ---- along the positions that hold bond i

  -- those before p are added, and p is the next, if there is one
  pub record Along (p : ℕ) (old held : List ℤ) : Type 0 where
    pub low : p ≤ position_count s
    pub next : p < position_count s → position_bond s p ≡ i
    pub is : held ≡ added (held_up_to m s i p) (vertex_count m.vertices) old

  module _ (old : List ℤ) where
    -- none yet
    pub along_start : {p : ℕ} → p ≡ next_holder s i 0 → vertex_count m.vertices ≤ length old → Along p old old
    along_start {p} is fits =
        rw is
        (record {
          low = (holder_in s i 0 (omega arith)).1;
          next = λ some. holder_holds s i 0 (omega arith) some;
          is =
              added_none (vertex_count m.vertices) old fits
              ∙ added_same (λ v. pos 0) (held_up_to m s i (next_holder s i 0)) (vertex_count m.vertices) old
              (λ v low. sym (held_gap 0 v (omega arith) ∙ sum_none ◌+ℤ◌ (pos 0) (λ q. if holds s i q then position_exposure m (position_at s q) v else pos 0)));
        })

    module _ (p : ℕ) (held : List ℤ) (so : Along p old held) where
      -- there is room for the next
      pub along_room : Valued m s → p < position_count s → Room old (vertex_count m.vertices) (held_values m.bonds s i (position_count s))
          → Room held (vertex_count m.vertices) (size_at p)
      along_room valued low room v below =
          rw (so.is, added_at (held_up_to m s i p) (vertex_count m.vertices) old v below)
          (omega (
            arith,
            nat_abs-add (get_or old v (pos 0)) (held_up_to m s i p v),
            held_within valued p v so.low,
            sizes_next p (so.next low),
            total_grows (λ q. if holds s i q then size_at q else 0) (p + 1) (position_count s) (omega (arith, low)),
            room v below,
          ))

      -- it is added, and the one after it is next
      pub along_next : (new : List ℤ) {after : ℕ} → p < position_count s → new ≡ added (position_exposure m (position_at s p)) (vertex_count m.vertices) held
          → after ≡ next_holder s (position_bond s p) (p + 1) → Along after old new
      along_next new {after} low more is =
          let fine : p + 1 ≤ position_count s = omega (arith, low) in
          rw (is ∙ ap (λ (b : ℕ). next_holder s b (p + 1)) (so.next low))
          (record {
            low = (holder_in s i (p + 1) fine).1;
            next = λ some. holder_holds s i (p + 1) fine some;
            is =
                more
                ∙ (ap (added (position_exposure m (position_at s p)) (vertex_count m.vertices)) so.is
                ∙ (added_added (held_up_to m s i p) (position_exposure m (position_at s p)) (vertex_count m.vertices) old
                ∙ added_same (λ v. held_up_to m s i p v +ℤ position_exposure m (position_at s p) v) (held_up_to m s i (next_holder s i (p + 1))) (vertex_count m.vertices) old
                (λ v below. sym (held_gap (p + 1) v fine ∙ held_next p v (so.next low)))));
          })

      -- it lies further on
      pub along_further : {after : ℕ} → p < position_count s → after ≡ next_holder s (position_bond s p) (p + 1) → position_count s - after < position_count s - p
      along_further {after} low is =
          omega (arith, low, is, (holder_in s (position_bond s p) (p + 1) (omega (arith, low))).0)

      -- all are added
      pub along_end : position_count s ≤ p → held ≡ added (held_exposure m s i) (vertex_count m.vertices) old
      along_end end =
          let all : p ≡ position_count s = omega (arith, end, so.low) in
          so.is ∙ ap (λ (q : ℕ). added (held_up_to m s i q) (vertex_count m.vertices) old) all

-- ---- bond by bond

-- what vertex v gets of the positions that hold one of the first i bonds
abbrev pub bonds_up_to : Market → List ℕ → ℕ → ℕ → ℤ
bonds_up_to m s i v = total_z (λ b. held_exposure m s b v) i

module _ (m : Market) (s : List ℕ) (valued : Valued m s) where
  known : (p : ℕ) → p < position_count s → position_bond s p < bond_count m.bonds
  known p low = rw (← bond_at s p) (valued.positions.position p low).bond_is

  -- the values of the first bonds' positions, with those of one bond more, are within the total
  values_within : (i : ℕ) → i < bond_count m.bonds
      → total (λ b. held_values m.bonds s b (position_count s)) i + held_values m.bonds s i (position_count s) ≤ 100000000000
  unfolding value_total
  values_within i low =
      omega (
        arith,
        sum_next ◌+◌ 0 (λ b. held_values m.bonds s b (position_count s)) i,
        total_grows (λ b. held_values m.bonds s b (position_count s)) (i + 1) (bond_count m.bonds) (omega (arith, low)),
        sum_grouped ◌+◌ 0 (position_bond s) (λ q. nat_abs (value m.bonds (position_at s q))) naturals (position_count s) (bond_count m.bonds) known,
        valued.positions.total_in,
      )

  -- no bond yet
  pub bonds_start : (old held : List ℤ) → held ≡ filled (λ v. pos 0) (vertex_count m.vertices) old → held ≡ filled (bonds_up_to m s 0) (vertex_count m.vertices) old
  bonds_start old held is =
      is ∙ filled_same (λ v. pos 0) (bonds_up_to m s 0) (vertex_count m.vertices) old (λ v low. sym (sum_none ◌+ℤ◌ (pos 0) (λ b. held_exposure m s b v)))

  module _ (i : ℕ) (old held : List ℤ) (is : held ≡ filled (bonds_up_to m s i) (vertex_count m.vertices) old) where
    -- there is room for the next bond's positions
    pub bonds_room : i < bond_count m.bonds → vertex_count m.vertices ≤ length old → HeldRoom m s i held
    bonds_room low fits =
        record {
          size = rw is (omega (arith, filled-length (bonds_up_to m s i) (vertex_count m.vertices) old fits, fits));
          room = λ v below.
              rw (is, filled_below (bonds_up_to m s i) (vertex_count m.vertices) old v (pos 0) below)
              (omega (
                arith,
                total_size (λ b. held_exposure m s b v) i,
                total-le (λ b. nat_abs (held_exposure m s b v)) (λ b. held_values m.bonds s b (position_count s)) i
                    (λ b lower. held_within m s b valued (position_count s) v (omega arith)),
                values_within i low,
              ));
        }

    -- they are added
    pub bonds_next : (new : List ℤ) → new ≡ added (held_exposure m s i) (vertex_count m.vertices) held → new ≡ filled (bonds_up_to m s (i + 1)) (vertex_count m.vertices) old
    bonds_next new more =
        more
        ∙ (ap (added (held_exposure m s i) (vertex_count m.vertices)) is
        ∙ (added_filled (bonds_up_to m s i) (held_exposure m s i) (vertex_count m.vertices) old
        ∙ filled_same (λ v. bonds_up_to m s i v +ℤ held_exposure m s i v) (bonds_up_to m s (i + 1)) (vertex_count m.vertices) old
        (λ v low. sym (sum_next ◌+ℤ◌ (pos 0) (λ b. held_exposure m s b v) i))))

    -- there are none
    pub bonds_skip : position_count s ≤ next_holder s i 0 → held ≡ filled (bonds_up_to m s (i + 1)) (vertex_count m.vertices) old
    bonds_skip none =
        let all : next_holder s i 0 ≡ position_count s = omega (arith, none, (holder_in s i 0 (omega arith)).1) in
        is
        ∙ filled_same (bonds_up_to m s i) (bonds_up_to m s (i + 1)) (vertex_count m.vertices) old
        (λ v low.
        let nothing : held_exposure m s i v ≡ pos 0 =
        ap (λ (q : ℕ). held_up_to m s i q v) (sym all) ∙ (held_gap m s i 0 v (omega arith) ∙ sum_none ◌+ℤ◌ (pos 0) (λ q. if holds s i q then position_exposure m (position_at s q) v else pos 0)) in
        sym (sum_next ◌+ℤ◌ (pos 0) (λ b. held_exposure m s b v) i ∙ (ap (λ (z : ℤ). bonds_up_to m s i v +ℤ z) nothing ∙ +ℤ_idr (bonds_up_to m s i v))))

    -- all bonds
    pub bonds_end : i ≡ bond_count m.bonds → held ≡ filled (exposure m s) (vertex_count m.vertices) old
    unfolding exposure exposure_up_to
    bonds_end end =
        is
        ∙ filled_same (bonds_up_to m s i) (exposure m s) (vertex_count m.vertices) old
        (λ v low.
        ap (λ (n : ℕ). bonds_up_to m s n v) end
        ∙ sym (sum_grouped ◌+ℤ◌ (pos 0) (position_bond s) (λ q. position_exposure m (position_at s q) v) integers (position_count s) (bond_count m.bonds) known))
