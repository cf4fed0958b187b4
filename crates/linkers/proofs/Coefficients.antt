-- Laws of what index numbers are divided by, and the bounds of coefficients and indexed coupons.
-- Assumes nothing.
use Rattle.std.specs.Prelude.{if◌then◌else◌}
use Prim.Native.Nat.{ℕ, suc, ◌*◌, ◌≤◌, ◌<◌, max}
use mathlib.Core.Bool.{Bool, true, false, ◌&&◌}
use mathlib.Core.List.{List}
use mathlib.Core.Logic.{◌⊎◌, inl, inr, ⊎_elim}
use mathlib.Core.Path.{◌≡◌, refl, sym, ap, ◌∙◌}
use native.Mathlib.Nat.{mul-le-mul, mul-le-mul_left, zero-mul}
use native.Mathlib.Omega.{arith}
use borrow.Author.Tests.{ltb-true, ltb-false, lt-ltb, eqb-true, eqb-false}
use lib.Dec.{ltb, eqb}
use Rattle.numbers.specs.Items.{largest}
use Rattle.numbers.specs.Rounding.{nearest}
use Rattle.numbers.proofs.Items.{by_test, both, true_not_false}
use Rattle.numbers.proofs.Largest.{largest_at, largest_most, largest_reached}
use Rattle.numbers.proofs.Rounding.{nearest-le, nearest_zero}
use Rattle.calendar.specs.Dates.{in_calendar, day_number}
use Rattle.schedule.specs.Check.{in_form}
use Rattle.schedule.proofs.CouponDates.{due_near}
use Rattle.linkers.specs.declared.Linker.{Linker}
use Rattle.linkers.specs.Numbers.{issue_number, coupon_number, bears_coupon}
use Rattle.linkers.specs.Coefficients.{largest_before, base, over, multiplied}

-- ---- widths

module _ (number by : ℕ) (high : number ≤ 100000000) (low : 10 ≤ by) where
  pub over_most : over number by ≤ 1000000000000
  unfolding over
  over_most =
      let scaled : 1000000000000 * 10 ≤ 1000000000000 * by = mul-le-mul_left 1000000000000 low in
      nearest-le (100000 * number) by 1000000000000 (omega arith) (omega arith)

  pub product_most : (coupon : ℕ) → coupon ≤ 1000000 → coupon * over number by ≤ 1000000000000000000
  product_most coupon small = mul-le-mul small over_most

-- two divisions, one after the other
pub indexed_is : (coupon number by rate indexed : ℕ) → rate ≡ nearest (100000 * number) by → indexed ≡ nearest (coupon * rate) 100000
    → indexed ≡ multiplied coupon (over number by)
unfolding over multiplied
indexed_is coupon number by rate indexed first second = second ∙ ap (λ (n : ℕ). nearest (coupon * n) 100000) first

-- a coupon of 0 stays 0
pub nothing_multiplied : (by : ℕ) → multiplied 0 by ≡ 0
unfolding multiplied
nothing_multiplied by = rw (zero-mul by) (nearest_zero 100000)

-- ---- the largest earlier number

module _ (l : Linker) (prices : List ℕ) (formed : in_form l.terms ≡ true) (known : in_calendar l.terms.maturity ≡ true) where
  -- what the largest is taken of
  abbrev earlier : ℕ → ℕ → ℕ
  earlier j i = if ltb j i && bears_coupon l i then coupon_number l prices i else 0

  earlier_is : (j i : ℕ) → j < i → bears_coupon l i ≡ true → earlier j i ≡ coupon_number l prices i
  earlier_is j i low bears = rw (lt-ltb j i low, bears) refl

  earlier_most : (j i b : ℕ) → (j < i → bears_coupon l i ≡ true → coupon_number l prices i ≤ b) → earlier j i ≤ b
  earlier_most j i b small =
      by_test (ltb j i && bears_coupon l i)
      (λ t. let w = both (ltb j i) (bears_coupon l i) t in rw t (small (ltb-true j i w.0) w.1))
      (λ f. rw f (omega arith))

  -- no earlier number is larger, nor the issue's
  pub before_coupon : (j i : ℕ) → j < i → bears_coupon l i ≡ true → coupon_number l prices i ≤ largest_before l prices j
  unfolding largest_before
  before_coupon j i low bears =
      omega
      (arith, earlier_is j i low bears, largest_at (earlier j) i 1200 (due_near l.terms (day_number l.issue) i formed known bears))

  pub before_issue : (j : ℕ) → issue_number l prices ≤ largest_before l prices j
  unfolding largest_before
  before_issue j = omega arith

  -- it is no larger than what none of these passes
  pub before_most : (j b : ℕ) → issue_number l prices ≤ b → ((i : ℕ) → j < i → bears_coupon l i ≡ true → coupon_number l prices i ≤ b)
      → largest_before l prices j ≤ b
  unfolding largest_before
  before_most j b issue each =
      omega (arith, issue, largest_most (earlier j) b 1200 (λ i low. earlier_most j i b (each i)))

  -- and is one of them
  pub before_reached : (j : ℕ)
      → (largest_before l prices j ≡ issue_number l prices)
      ⊎ ((i : ℕ) × (j < i) × (bears_coupon l i ≡ true) × (coupon_number l prices i ≡ largest_before l prices j))
  unfolding largest_before
  before_reached j =
      by_test (ltb (issue_number l prices) (largest (earlier j) 1200))
      (λ t.
      let above = ltb-true (issue_number l prices) (largest (earlier j) 1200) t in
      ⊎_elim
      (λ none. absurd (omega (arith, above, none)))
      (λ w. by_test (ltb j w.0 && bears_coupon l w.0)
      (λ u.
      let parts = both (ltb j w.0) (bears_coupon l w.0) u in
      let own = earlier_is j w.0 (ltb-true j w.0 parts.0) parts.1 in
      inr (w.0, ltb-true j w.0 parts.0, parts.1, omega (arith, own, w.2, above)))
      (λ u. let own : earlier j w.0 ≡ 0 = rw u refl in absurd (omega (arith, own, w.2, above))))
      (largest_reached (earlier j) 1200))
      (λ f. inl (omega (arith, ltb-false (issue_number l prices) (largest (earlier j) 1200) f)))

  -- ---- from one coupon to the next

  -- before the oldest there is the issue's alone
  pub before_oldest : (j : ℕ) → ((i : ℕ) → j < i → bears_coupon l i ≡ false) → largest_before l prices j ≡ issue_number l prices
  before_oldest j none =
      omega (
        arith,
        before_issue j,
        before_most j (issue_number l prices) (omega arith)
            (λ i low bears. absurd (true_not_false (sym bears ∙ none i low))),
      )

  -- the next has one earlier number more
  pub before_next : (j : ℕ) → bears_coupon l (suc j) ≡ true
      → largest_before l prices j ≡ max (largest_before l prices (suc j)) (coupon_number l prices (suc j))
  before_next j bears =
      omega (
        arith,
        before_coupon j (suc j) (omega arith) bears,
        before_most (suc j) (largest_before l prices j) (before_issue j) (λ i low u. before_coupon j i (omega arith) u),
        before_most j (max (largest_before l prices (suc j)) (coupon_number l prices (suc j))) (omega (arith, before_issue (suc j)))
            (λ i low u. by_test (eqb i (suc j))
            (λ same. let e = eqb-true i (suc j) same in omega (arith, ap (coupon_number l prices) e))
            (λ other. omega (arith, before_coupon (suc j) i (omega (arith, low, eqb-false i (suc j) other)) u))),
      )

  -- ---- by kind

  pub base_by : (j : ℕ) (italia : Bool) → l.btp_italia ≡ italia → base l prices j ≡ (if italia then largest_before l prices j else issue_number l prices)
  unfolding base
  base_by j italia is = ap (λ (b : Bool). if b then largest_before l prices j else issue_number l prices) is

  pub base_other : l.btp_italia ≡ false → (j : ℕ) → base l prices j ≡ issue_number l prices
  base_other other j = base_by j false other

  -- what the oldest is divided by
  pub base_oldest : (j : ℕ) → ((i : ℕ) → j < i → bears_coupon l i ≡ false) → base l prices j ≡ issue_number l prices
  base_oldest j none = by_test l.btp_italia (λ t. base_by j true t ∙ before_oldest j none) (λ f. base_by j false f)

  -- and the next, from what the one before it is divided by
  pub base_next : (j : ℕ) → bears_coupon l (suc j) ≡ true
      → base l prices j ≡ (if l.btp_italia then max (base l prices (suc j)) (coupon_number l prices (suc j)) else base l prices (suc j))
  base_next j bears =
      by_kind l.btp_italia refl
    where
      by_kind : (italia : Bool) → l.btp_italia ≡ italia
          → base l prices j ≡ (if italia then max (base l prices (suc j)) (coupon_number l prices (suc j)) else base l prices (suc j))
      by_kind true t = base_by j true t ∙ (before_next j bears ∙ ap (λ (n : ℕ). max n (coupon_number l prices (suc j))) (sym (base_by (suc j) true t)))
      by_kind false f = base_by j false f ∙ sym (base_by (suc j) false f)
