-- Reordered and divided positions: their exposures, and that they pass their check.
-- Assumes nothing.
use Rattle.std.specs.Prelude.{if◌then◌else◌}
use Prim.Native.Nat.{ℕ, ◌+◌, ◌*◌, ◌%◌, ◌<◌}
use mathlib.Core.Bool.{true}
use mathlib.Core.List.{List, [], ◌++◌}
use mathlib.Core.Path.{◌≡◌, refl, sym, ap, ◌∙◌}
use native.Mathlib.Nat.{add-zero, add_comm}
use native.Mathlib.Omega.{arith}
use borrow.Author.Tests.{eqb-true, eq-eqb}
use lib.Dec.{eqb}
use lib.IntN.{ℤ, pos, nat_abs, ◌+ℤ◌, +ℤ_idr}
use lib.ListN.{length, length-append}
use Rattle.numbers.specs.Items.{first_failing, sum_of, how_often}
use Rattle.numbers.specs.Rounding.{equal_z}
use Rattle.numbers.specs.Findings.{Passed}
use Rattle.numbers.proofs.Counts.{Equality, divided_sum, divided_count, often_joined, often_same}
use Rattle.numbers.proofs.Items.{Commutes, naturals, integers, sum_none, both}
use Rattle.numbers.proofs.Little.{u32_alike, i64_alike, alike_first, alike_after}
use Rattle.numbers.proofs.Signs.{equal_is, equal_same}
use Rattle.reading.specs.Book.{Market}
use Rattle.reading.proofs.Forms.{whole_records}
use Rattle.valuing.specs.Mapping.{position_exposure, exposure_up_to, exposure}
use Rattle.valuing.specs.Order.{same_position, stands_often, whole_positions, Reordered, Divided}
use Rattle.valuing.specs.Positions.{Position, position_count, position_at, position_code, value, value_total, total_finding, check_positions}
use Rattle.valuing.proofs.Sound.{sizes, Accepted, accepted, accepted_passed}

-- ---- the test of equality

-- it tells equal records from different ones
pub positions_equal : Equality same_position
unfolding same_position
positions_equal = record {
  is = λ a b t.
      let h = both (eqb a.bond b.bond) (equal_z a.nominal b.nominal) t in
      let bonds : a.bond ≡ b.bond = eqb-true a.bond b.bond h.0 in
      let nominals : a.nominal ≡ b.nominal = equal_is a.nominal b.nominal h.1 in
      λ i. record { bond = bonds i; nominal = nominals i };
  itself = λ a. rw (eq-eqb a.bond a.bond refl) (equal_same a.nominal);
}

-- ---- divisions

-- a sum over the positions by any operation: the sum of the parts' sums
pub divided_by : {B : Type 0} (op : B → B → B) (none : B) → Commutes op none → (w : Position → B) (s one other : List ℕ) → Divided s one other
    → sum_of op none (λ p. w (position_at s p)) (position_count s)
    ≡ op (sum_of op none (λ p. w (position_at one p)) (position_count one)) (sum_of op none (λ p. w (position_at other p)) (position_count other))
unfolding stands_often
divided_by op none laws w s one other d =
    divided_sum same_position positions_equal op none laws w (position_at s) (position_at one) (position_at other)
    (position_count s) (position_count one) (position_count other) d

-- as many positions as the parts have
pub divided_positions : (s one other : List ℕ) → Divided s one other → position_count s ≡ position_count one + position_count other
unfolding stands_often
divided_positions s one other d =
    divided_count same_position positions_equal (position_at s) (position_at one) (position_at other)
    (position_count s) (position_count one) (position_count other) d

-- each exposure is the sum of the parts'
pub divided_exposure : (m : Market) (s one other : List ℕ) → Divided s one other → (v : ℕ) → exposure m s v ≡ exposure m one v +ℤ exposure m other v
unfolding exposure exposure_up_to
divided_exposure m s one other d v = divided_by ◌+ℤ◌ (pos 0) integers (λ (r : Position). position_exposure m r v) s one other d

-- the two parts in either order
pub divided_other : (s one other : List ℕ) → Divided s one other → Divided s other one
divided_other s one other d r = d r ∙ add_comm (stands_often r one) (stands_often r other)

-- ---- reorderings

-- no record stands among no positions
pub stands_none : (r : Position) → stands_often r [] ≡ 0
unfolding stands_often how_often
stands_none r = sum_none ◌+◌ 0 (λ i. if same_position r (position_at [] i) then 1 else 0)

-- no positions, no exposure
pub exposure_none : (m : Market) (v : ℕ) → exposure m [] v ≡ pos 0
unfolding exposure exposure_up_to
exposure_none m v = sum_none ◌+ℤ◌ (pos 0) (λ p. position_exposure m (position_at [] p) v)

-- a reordering is a division of which one part is empty
pub reordered_divided : (s t : List ℕ) → Reordered s t → Divided s t []
reordered_divided s t same r = same r ∙ (sym (add-zero (stands_often r t)) ∙ ap (λ (n : ℕ). stands_often r t + n) (sym (stands_none r)))

-- reordered positions have the same exposures
pub reordered_exposure : (m : Market) (s t : List ℕ) → Reordered s t → (v : ℕ) → exposure m s v ≡ exposure m t v
reordered_exposure m s t same v =
    divided_exposure m s t [] (reordered_divided s t same) v
    ∙ (ap (λ (z : ℤ). exposure m t v +ℤ z) (exposure_none m v) ∙ +ℤ_idr (exposure m t v))

-- ---- the check

-- an empty section passes
pub empty_passed : (bonds : List ℕ) → check_positions bonds [] ≡ Passed
unfolding first_failing sum_of value_total total_finding check_positions
empty_passed bonds = refl

-- the sizes of the parts' values total that of the whole
pub divided_sizes : (bonds : List ℕ) (s one other : List ℕ) → Divided s one other → sizes bonds s ≡ sizes bonds one + sizes bonds other
unfolding value_total
divided_sizes bonds s one other d = divided_by ◌+◌ 0 naturals (λ (r : Position). nat_abs (value bonds r)) s one other d

-- a part of positions that passed passes, where it is of whole records
pub divided_passed : (bonds : List ℕ) (s one other : List ℕ) → Divided s one other → check_positions bonds s ≡ Passed → whole_positions one ≡ true
    → check_positions bonds one ≡ Passed
divided_passed bonds s one other d e whole =
    let a : Accepted bonds s = accepted bonds s e in
    accepted_passed bonds one
    (record {
      whole = whole;
      count = (omega arith, omega (arith, a.count.1, divided_positions s one other d));
      good = omega (arith, a.good, divided_by ◌+◌ 0 naturals (position_code bonds) s one other d);
      small = omega (arith, a.small, divided_sizes bonds s one other d);
    })

-- positions that passed pass in any other order
pub reordered_passed : (bonds : List ℕ) (s t : List ℕ) → Reordered s t → check_positions bonds s ≡ Passed → whole_positions t ≡ true → check_positions bonds t ≡ Passed
reordered_passed bonds s t same e whole =
    divided_passed bonds s t [] (reordered_divided s t same) e whole

-- ---- one section's records, then another's

module _ (one other : List ℕ) where
  -- the first ones are the first section's
  pub position_first : (p : ℕ) → p < position_count one → position_at (one ++ other) p ≡ position_at one p
  unfolding position_at
  position_first p low =
      rw (
        u32_alike (one ++ other) (12 * p) one (12 * p) (alike_first one other (12 * p) 4 (omega arith)),
        i64_alike (one ++ other) (12 * p + 4) one (12 * p + 4) (alike_first one other (12 * p + 4) 8 (omega arith)),
      )

  module _ (whole : whole_positions one ≡ true) where
    -- its length
    pub size : length one ≡ 12 * position_count one
    size = whole_records (length one) 12 (eqb-true (length one % 12) 0 whole)

    -- the later ones are the other's
    pub position_after : (p : ℕ) → position_at (one ++ other) (position_count one + p) ≡ position_at other p
    unfolding position_at
    position_after p =
        let bond : 12 * (position_count one + p) ≡ length one + 12 * p = omega (arith, size) in
        let nominal : length one + 12 * p + 4 ≡ length one + (12 * p + 4) = omega arith in
        rw (
          bond,
          nominal,
          u32_alike (one ++ other) (length one + 12 * p) other (12 * p) (alike_after one other (12 * p) 4),
          i64_alike (one ++ other) (length one + (12 * p + 4)) other (12 * p + 4) (alike_after one other (12 * p + 4) 8),
        )

    -- as many as both have
    pub count_together : position_count (one ++ other) ≡ position_count one + position_count other
    count_together = omega (arith, size, length-append one other)

    -- they are a division into the two
    pub put_together : Divided (one ++ other) one other
    unfolding stands_often
    put_together r =
        ap (how_often same_position r (position_at (one ++ other))) count_together
        ∙ (often_joined same_position r (position_at (one ++ other)) (position_count one) (position_count other)
        ∙ (ap (λ (n : ℕ). n + how_often same_position r (λ p. position_at (one ++ other) (position_count one + p)) (position_count other))
        (often_same same_position r (position_at (one ++ other)) (position_at one) (position_count one) position_first)
        ∙ ap (λ (n : ℕ). how_often same_position r (position_at one) (position_count one) + n)
        (often_same same_position r (λ p. position_at (one ++ other) (position_count one + p)) (position_at other) (position_count other)
        (λ p low. position_after p))))

    -- and their exposures add
    pub together_exposure : (m : Market) (v : ℕ) → exposure m (one ++ other) v ≡ exposure m one v +ℤ exposure m other v
    together_exposure m v = divided_exposure m (one ++ other) one other put_together v
