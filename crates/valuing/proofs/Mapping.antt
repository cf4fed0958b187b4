-- Laws of the mapping of shares to vertices: the parts total the share, and sizes at the vertices stay within the values'.
-- Assumes nothing.
use Rattle.std.specs.Prelude.{if◌then◌else◌}
use Prim.Native.Nat.{ℕ, zero, suc, ◌+◌, ◌-◌, ◌≤◌, ◌<◌, zero-le}
use mathlib.Core.Bool.{Bool, true, false, not, ◌&&◌, ◌||◌}
use mathlib.Core.List.{List}
use mathlib.Core.Path.{◌≡◌, refl, sym, ap, ◌∙◌}
use native.Mathlib.Nat.{le_refl, le_of_eq, le_trans}
use native.Mathlib.Numerals.{add-one}
use native.Mathlib.Omega.{arith}
use borrow.Author.Tests.{eqb-true, not-true, eq-eqb, ne_eqb}
use lib.Dec.{eqb, ltb}
use lib.IntN.{ℤ, pos, nat_abs, ◌+ℤ◌}
use Rattle.numbers.specs.Items.{total, total_z}
use Rattle.numbers.specs.Rounding.{negative, with_sign}
use Rattle.numbers.proofs.Items.{by_test, true_not_false, both, naturals, integers, sum_same, sum_both, sum_swap, zero_total, total_one, total-le, total_size, signed_total}
use Rattle.numbers.proofs.Rounding.{floor_weighted}
use Rattle.numbers.proofs.Signs.{sign_size, nat_abs_with_sign}
use Rattle.reading.specs.Book.{Market}
use Rattle.reading.specs.Flows.{flow_days}
use Rattle.reading.specs.Vertices.{vertex_count, vertex_days}
use Rattle.valuing.specs.Curves.{Curve, curve_of, is_first, between}
use Rattle.valuing.specs.Mapping.{lower_size, part_size, mapped, mapped_for, mapped_value, position_exposure, exposure_up_to, exposure}
use Rattle.valuing.specs.InnerContracts.{Neighbours, SoundFlows, ValuedBond, Valued}
use Rattle.valuing.specs.Positions.{position_count, position_at, value, value_total}
use Rattle.valuing.specs.Split.{bond_flows, flow_count, bond_worth, share}
use Rattle.valuing.proofs.Split.{floor_within, floor_whole, share_sizes_upto, shares_total}

-- ---- two parts, at u and before it

if_within : (t : Bool) (x n : ℕ) → (t ≡ true → x ≤ n) → (if t then x else 0) ≤ n
if_within true x n h = h refl
if_within false x n h = zero-le

-- one number at item u and no other
at_total : (x u n : ℕ) → u < n → total (λ v. if eqb v u then x else 0) n ≡ x
at_total x u n low =
    total_one (λ v. if eqb v u then x else 0) u n low (λ v other. rw (ne_eqb v u other))
    ∙ rw (eq-eqb u u refl)

-- one number before item u
before_total : (y u n : ℕ) → u < n → (u ≡ 0 → y ≡ 0) → total (λ v. if eqb (v + 1) u then y else 0) n ≡ y
before_total y zero n low first =
    zero_total (λ v. if eqb (v + 1) 0 then y else 0) n (λ v below. rw (ne_eqb (v + 1) 0 (λ e. omega arith))) ∙ sym (first refl)
before_total y (suc w) n low first =
    total_one (λ v. if eqb (v + 1) (suc w) then y else 0) w n (omega arith) (λ v other. rw (ne_eqb (v + 1) (suc w) (λ e. other (omega arith))))
    ∙ rw (eq-eqb (w + 1) (suc w) (add-one w))

-- never both at one item
apart : (x y u v : ℕ)
    → (if eqb v u then x else (if eqb (v + 1) u then y else 0)) ≡ (if eqb v u then x else 0) + (if eqb (v + 1) u then y else 0)
apart x y u v =
    by_test (eqb v u)
    (λ t. rw (t, ne_eqb (v + 1) u (λ e. omega (arith, eqb-true v u t))) (omega arith))
    (λ f. rw f (omega arith))

two_total : (x y u n : ℕ) → u < n → (u ≡ 0 → y ≡ 0)
    → total (λ v. if eqb v u then x else (if eqb (v + 1) u then y else 0)) n ≡ x + y
two_total x y u n low first =
    sum_same ◌+◌ 0 _ _ n (λ v below. apart x y u v)
    ∙ sum_both ◌+◌ 0 naturals (λ v. if eqb v u then x else 0) (λ v. if eqb (v + 1) u then y else 0) n
    ∙ rw (at_total x u n low, before_total y u n low first)

two_within : (a b : Bool) (x y n : ℕ) → x ≤ n → y ≤ n → (if a then x else (if b then y else 0)) ≤ n
two_within true b x y n p q = p
two_within false true x y n p q = q
two_within false false x y n p q = zero-le

-- ---- the parts of a share

-- a first vertex has no neighbour below
lower-zero : (a t c : Bool) (x : ℕ) → t ≡ true → (if a && not (t || c) then x else 0) ≡ 0
lower-zero true true c x first = refl
lower-zero true false c x first = absurd (true_not_false (sym first))
lower-zero false t c x first = refl

module _ (vertices : List ℕ) (u d : ℕ) where
  -- the lower part is within the share
  pub lower_within : (size : ℕ) → Neighbours vertices u d → lower_size vertices u d size ≤ size
  unfolding lower_size
  lower_within size h =
      if_within (between vertices u d) _ size
      (λ t.
      let inner = (both (ltb d (vertex_days vertices u)) (not (is_first vertices u)) t).1 in
      let past : vertex_days vertices (u - 1) < d = h.past (not-true (is_first vertices u) inner) in
      floor_weighted size _ _ (omega arith))

  -- the first vertex of all has none below it
  pub lower_first : (size : ℕ) → u ≡ 0 → lower_size vertices u d size ≡ 0
  unfolding lower_size
  lower_first size first = lower-zero (ltb d (vertex_days vertices u)) (eqb u 0) _ _ (eq-eqb u 0 first)

  -- a part is within the share
  pub part_within : (size v : ℕ) → Neighbours vertices u d → part_size vertices u d size v ≤ size
  unfolding part_size
  part_within size v h = two_within (eqb v u) (eqb (v + 1) u) _ _ size (omega arith) (lower_within size h)

  -- the parts total the share
  pub parts_total : (size : ℕ) → Neighbours vertices u d → (n : ℕ) → u < n → total (part_size vertices u d size) n ≡ size
  unfolding part_size
  parts_total size h n low =
      two_total (size - lower_size vertices u d size) (lower_size vertices u d size) u n low (lower_first size)
      ∙ omega (arith, lower_within size h)

-- ---- a share, with its sign

module _ (vertices : List ℕ) (u d : ℕ) (share : ℤ) (h : Neighbours vertices u d) where
  -- what a vertex gets of a share is within it
  pub mapped_within : (v : ℕ) → nat_abs (mapped vertices u d share v) ≤ nat_abs share
  unfolding mapped
  mapped_within v = rw (nat_abs_with_sign (negative share) (part_size vertices u d (nat_abs share) v)) (part_within vertices u d (nat_abs share) v h)

  -- the two parts of a share total it, with its sign
  pub mapped_total : (n : ℕ) → u < n → total_z (mapped vertices u d share) n ≡ share
  unfolding mapped
  mapped_total n low =
      signed_total (negative share) (part_size vertices u d (nat_abs share)) n
      ∙ ap (with_sign (negative share)) (parts_total vertices u d (nat_abs share) h n low)
      ∙ sign_size share

  -- and their sizes its size
  pub mapped_sizes : (n : ℕ) → u < n → total (λ v. nat_abs (mapped vertices u d share v)) n ≡ nat_abs share
  unfolding mapped
  mapped_sizes n low =
      sum_same ◌+◌ 0 _ _ n (λ v below. nat_abs_with_sign (negative share) _)
      ∙ parts_total vertices u d (nat_abs share) h n low

-- ---- a value, split and mapped

-- what vertex v gets of flow i's share of a value
abbrev pub flow_part : Curve → List ℕ → ℤ → ℕ → ℕ → ℤ
flow_part curve stretch value v i = mapped_for curve (flow_days stretch i) (share curve stretch value i) v

module _ (curve : Curve) (stretch : List ℕ) (sound : SoundFlows curve stretch) (some : 1 ≤ bond_worth curve stretch) (value : ℤ) where
  -- a value's parts over all vertices total it
  pub value_parts : total_z (mapped_value curve stretch value) (vertex_count curve.vertices) ≡ value
  unfolding mapped_value
  value_parts =
      sum_swap ◌+ℤ◌ (pos 0) integers (flow_part curve stretch value) (vertex_count curve.vertices) (flow_count stretch)
      ∙ sum_same ◌+ℤ◌ (pos 0) _ _ (flow_count stretch)
      (λ j low. mapped_total curve.vertices _ (flow_days stretch j) (share curve stretch value j) (sound.lies j low) (vertex_count curve.vertices) (sound.lies j low).is_vertex)
      ∙ shares_total curve stretch some value

  -- and their sizes at most its size
  pub value_sizes : total (λ v. nat_abs (mapped_value curve stretch value v)) (vertex_count curve.vertices) ≤ nat_abs value
  unfolding mapped_value
  value_sizes =
      let n = vertex_count curve.vertices in
      let shares : total (λ v. total (λ j. nat_abs (flow_part curve stretch value v j)) (flow_count stretch)) n ≡ nat_abs value =
      sum_swap ◌+◌ 0 naturals (λ v j. nat_abs (flow_part curve stretch value v j)) n (flow_count stretch)
      ∙ sum_same ◌+◌ 0 _ _ (flow_count stretch)
      (λ j low. mapped_sizes curve.vertices _ (flow_days stretch j) (share curve stretch value j) (sound.lies j low) n (sound.lies j low).is_vertex)
      ∙ share_sizes_upto curve stretch value (flow_count stretch)
      ∙ floor_whole curve stretch (nat_abs value) some in
      le_trans (total-le _ _ n (λ v low. total_size (flow_part curve stretch value v) (flow_count stretch))) (le_of_eq shares)

  -- what the first j flows bring a vertex is at most the value's size
  pub partial_bound : (j v : ℕ) → j ≤ flow_count stretch → nat_abs (total_z (flow_part curve stretch value v) j) ≤ nat_abs value
  partial_bound j v h =
      omega (
        arith,
        total_size (flow_part curve stretch value v) j,
        total-le (λ i. nat_abs (flow_part curve stretch value v i)) (λ i. nat_abs (share curve stretch value i)) j
            (λ i low. mapped_within curve.vertices _ (flow_days stretch i) (share curve stretch value i) (sound.lies i (omega arith)) v),
        share_sizes_upto curve stretch value j,
        floor_within curve stretch (nat_abs value) j h,
      )

  -- what a vertex gets of a value is at most the value's size
  pub mapped_bound : (v : ℕ) → nat_abs (mapped_value curve stretch value v) ≤ nat_abs value
  unfolding mapped_value
  mapped_bound v = partial_bound (flow_count stretch) v (le_refl (flow_count stretch))

-- ---- the exposures

module _ (m : Market) (s : List ℕ) (h : Valued m s) where
  bond_of : (p : ℕ) → p < position_count s → ValuedBond (curve_of m (position_at s p).bond) (bond_flows m (position_at s p).bond)
  bond_of p low = h.bond (position_at s p).bond (h.positions.position p low).bond_is

  -- what a vertex gets of a position is at most the size of its value
  pub position_within : (p : ℕ) → p < position_count s → (v : ℕ) → nat_abs (position_exposure m (position_at s p) v) ≤ nat_abs (value m.bonds (position_at s p))
  unfolding position_exposure
  position_within p low v = let b = bond_of p low in mapped_bound _ _ b.sound_flows b.worth_in.0 (value m.bonds (position_at s p)) v

  -- the sizes of all exposures are at most the values' sizes
  pub exposures_within : total (λ v. nat_abs (exposure m s v)) (vertex_count m.vertices) ≤ value_total m.bonds s (position_count s)
  unfolding exposure exposure_up_to value_total position_exposure curve_of
  exposures_within =
      le_trans
      (total-le _ _ (vertex_count m.vertices) (λ v low. total_size (λ p. position_exposure m (position_at s p) v) (position_count s)))
      (rw (sum_swap ◌+◌ 0 naturals (λ v p. nat_abs (position_exposure m (position_at s p) v)) (vertex_count m.vertices) (position_count s))
      (total-le _ _ (position_count s)
      (λ p low.
      let b = bond_of p low in
      value_sizes _ _ b.sound_flows b.worth_in.0 (value m.bonds (position_at s p)))))

  -- so they total at most 100,000,000,000
  pub exposures_bound : total (λ v. nat_abs (exposure m s v)) (vertex_count m.vertices) ≤ 100000000000
  exposures_bound = le_trans exposures_within h.positions.total_in
