-- The months that an inflation bond needs (29): from three before issue to two before maturity.
-- Assumes nothing.
use Prim.Native.Nat.{ℕ, ◌+◌, ◌-◌, ◌≤◌, ◌<◌}
use mathlib.Core.Bool.{true, not, ◌&&◌, ◌||◌}
use mathlib.Core.List.{List}
use mathlib.Core.Logic.{⊎_elim}
use mathlib.Core.Path.{◌≡◌, refl, sym, ◌∙◌}
use native.Mathlib.Omega.{arith}
use borrow.Author.Tests.{leb-true, ltb-true, ltb-false, le-leb, lt-ltb}
use lib.Dec.{leb, ltb}
use lib.ListN.{length}
use Rattle.calendar.specs.Dates.{month_number, day_number}
use Rattle.numbers.specs.Findings.{Passed, Refused}
use Rattle.numbers.specs.Items.{every}
use Rattle.numbers.proofs.Items.{by_test, both, either, every_each, every_all, true_not_false}
use Rattle.reading.proofs.Forms.{passed_then}
use Rattle.schedule.specs.Terms.{coupon_month, months_back}
use Rattle.schedule.specs.InnerContracts.{Dated}
use Rattle.schedule.proofs.CouponDates.{due_parts, due_earlier, due_0, in_order}
use Rattle.linkers.specs.declared.Linker.{Linker}
use Rattle.linkers.specs.Numbers.{bears_coupon}
use Rattle.linkers.specs.Check.{has_price, priced, check_months}

-- ---- one month

module _ (prices : List ℕ) (month : ℕ) where
  pub priced_is : 3 ≤ month → month - 2 < length prices → priced prices month ≡ true
  priced_is early lent =
      rw
      (le-leb 3 month early, lt-ltb (month - 3) (length prices) (omega arith), le-leb 2 month (omega arith), lt-ltb (month - 2) (length prices) lent)
      refl

  pub priced_parts : priced prices month ≡ true → (3 ≤ month) × (month - 2 < length prices)
  priced_parts t =
      let months = both (has_price prices month 3) (has_price prices month 2) t in
      let first = both (leb 3 month) (ltb (month - 3) (length prices)) months.0 in
      let second = both (leb 2 month) (ltb (month - 2) (length prices)) months.1 in
      (leb-true 3 month first.0, ltb-true (month - 2) (length prices) second.1)

-- ---- all that are needed

module _ (l : Linker) (d : Dated l.terms l.issue) where
  -- a date that bears a coupon lies in issue's month or a later one
  pub bearing_month : (j : ℕ) → bears_coupon l j ≡ true
      → (month_number l.issue ≤ coupon_month l.terms j) × (coupon_month l.terms j ≤ month_number l.terms.maturity)
  bearing_month j bears =
      by_test (ltb (month_number l.terms.maturity) (months_back l.terms j + month_number l.issue))
      (λ t.
      let earlier = due_earlier l.terms l.issue d j (ltb-true (month_number l.terms.maturity) (months_back l.terms j + month_number l.issue) t) in
      absurd (true_not_false (sym bears ∙ earlier)))
      (λ f.
      let back = (due_parts l.terms (day_number l.issue) j bears).0 in
      (omega (arith, ltb-false (month_number l.terms.maturity) (months_back l.terms j + month_number l.issue) f, back), omega arith))

  module _ (prices : List ℕ) where
    pub months_pass : 3 ≤ month_number l.issue → month_number l.terms.maturity - 2 < length prices → check_months l prices ≡ Passed
    unfolding check_months
    months_pass early lent =
        let first = priced_is prices (month_number l.issue) early (omega (arith, in_order l.terms l.issue d)) in
        let rest : every (λ j. not (bears_coupon l j) || priced prices (coupon_month l.terms j)) 1200 ≡ true =
        every_all (λ j. not (bears_coupon l j) || priced prices (coupon_month l.terms j)) 1200
        (λ j low. by_test (bears_coupon l j)
        (λ t.
        let w = bearing_month j t in
        rw (t, priced_is prices (coupon_month l.terms j) (omega (arith, w.0)) (omega (arith, w.1))) refl)
        (λ f. rw f refl)) in
        rw (first, rest) refl

    pub months_lent : check_months l prices ≡ Passed → (3 ≤ month_number l.issue) × (month_number l.terms.maturity - 2 < length prices)
    unfolding check_months
    months_lent passed =
        let all = both (priced prices (month_number l.issue)) (every (λ j. not (bears_coupon l j) || priced prices (coupon_month l.terms j)) 1200)
        (passed_then (priced prices (month_number l.issue) && every (λ j. not (bears_coupon l j) || priced prices (coupon_month l.terms j)) 1200) Passed 29 0 passed).0 in
        let last : not (bears_coupon l 0) || priced prices (coupon_month l.terms 0) ≡ true =
        every_each (λ j. not (bears_coupon l j) || priced prices (coupon_month l.terms j)) 1200 all.1 0 (omega arith) in
        let here : coupon_month l.terms 0 ≡ month_number l.terms.maturity = omega arith in
        let maturity : priced prices (month_number l.terms.maturity) ≡ true = rw (← here) (rw (due_0 l.terms l.issue d) at last) in
        ((priced_parts prices (month_number l.issue) all.0).0, (priced_parts prices (month_number l.terms.maturity) maturity).1)

    pub months_refused : ltb (month_number l.issue) 3 || leb (length prices) (month_number l.terms.maturity - 2) ≡ true → check_months l prices ≡ Refused 29 0
    unfolding check_months
    months_refused which =
        by_test (priced prices (month_number l.issue) && every (λ j. not (bears_coupon l j) || priced prices (coupon_month l.terms j)) 1200)
        (λ t.
        let lent = months_lent (rw t refl) in
        ⊎_elim
        (λ early. absurd (omega (arith, lent.0, ltb-true (month_number l.issue) 3 early)))
        (λ short. absurd (omega (arith, lent.1, leb-true (length prices) (month_number l.terms.maturity - 2) short)))
        (either (ltb (month_number l.issue) 3) (leb (length prices) (month_number l.terms.maturity - 2)) which))
        (λ f. rw f refl)
