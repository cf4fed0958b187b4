-- What the written flows are, and what coefficients and needed months come to: `linkers_demand`.
-- Assumes nothing.
use Rattle.std.specs.Prelude.{if◌then◌else◌}
use Prim.Native.Nat.{ℕ, ◌+◌, ◌-◌, ◌*◌, ◌≤◌, ◌<◌, max}
use mathlib.Core.Bool.{Bool, true, false, not, ◌||◌}
use mathlib.Core.List.{List}
use mathlib.Core.Logic.{⊎_elim, inl, inr}
use mathlib.Core.Path.{◌≡◌, refl, sym, ap, ◌∙◌}
use native.Mathlib.Nat.{mul-add, mul_assoc}
use native.Mathlib.Omega.{arith}
use borrow.Author.Tests.{leb-true, lt-ltb, le-leb}
use lib.Dec.{leb}
use lib.ListN.{length}
use Rattle.calendar.specs.declared.Date.{Date}
use Rattle.calendar.specs.Months.{month_days}
use Rattle.calendar.specs.Dates.{in_calendar, month_number, day_number}
use Rattle.calendar.proofs.FirstDays.{month_length}
use Rattle.calendar.proofs.DayNumbers.{calendar_in}
use Rattle.numbers.specs.Conditions.{In, within}
use Rattle.numbers.specs.Findings.{Finding, Passed, Refused, number_of, item_of}
use Rattle.numbers.specs.Items.{and_then, every}
use Rattle.numbers.specs.Rounding.{nearest}
use Rattle.numbers.proofs.Items.{by_test, both, both_passed, every_each, every_all, refused_not_passed}
use Rattle.numbers.proofs.Buffers.{filled_none}
use Rattle.numbers.proofs.Rounding.{nearest_exact}
use Rattle.reading.proofs.Forms.{passed_then}
use Rattle.schedule.specs.Terms.{coupon, coupon_month, coupon_day}
use Rattle.schedule.specs.Flows.{flow_dates, flow_byte}
use Rattle.schedule.specs.Check.{check_dates, in_form, check_form}
use Rattle.schedule.specs.Drawn.{days_to, outcome_for}
use Rattle.schedule.specs.InnerContracts.{Dated}
use Rattle.schedule.specs.Exactly.{Exactly}
use Rattle.schedule.proofs.CouponDates.{due_near, due_is, date_0, in_order}
use Rattle.schedule.proofs.FlowDates.{flow_of}
use Rattle.schedule.proofs.Counting.{principal_last, principal_most}
use Rattle.schedule.proofs.Exactly.{exactly_these, count_parts, none_written}
use Rattle.linkers.specs.declared.Linker.{Linker}
use Rattle.linkers.specs.Numbers.{price_of, index_number, issue_number, coupon_date_day, coupon_number, bears_coupon}
use Rattle.linkers.specs.Coefficients.{largest_before, base, over, multiplied, indexed_coupon, indexed_amount}
use Rattle.linkers.specs.Check.{check_linker_dates, due_on, dates_before_indexing, check_prices, check_months, check_coupons, check_linker}
use Rattle.linkers.specs.Drawn.{indexed_dates, outcome_to, flows_in, buffer_after}
use Rattle.linkers.specs.Exactly.{IndexedExactly, RefusedUnchanged, Accepts, Ranged, OutcomesRanged, MonthsNeeded, BasesLargest, OneAtIssue, FlatPrices, LinkersDemand}
use Rattle.linkers.proofs.Dates.{linker_dates_passed}
use Rattle.linkers.proofs.Numbers.{index_in}
use Rattle.linkers.proofs.Months.{bearing_month, months_pass, months_lent}
use Rattle.linkers.proofs.Coefficients.{before_coupon, before_issue, before_reached, base_by}
use Rattle.linkers.proofs.Passing.{coupon_fits, indexed_fewer}

-- ---- what a pass says

module _ (l : Linker) (evaluation : Date) where
  -- a bond that passed 25 and 26 with terms in form, seen from issue
  pub dated_linker : check_linker_dates l evaluation ≡ Passed → in_form l.terms ≡ true → Dated l.terms l.issue
  dated_linker passed formed =
      let w = linker_dates_passed l evaluation passed in
      record { formed = formed; matures = w.2; known = w.1; before = w.4 }

  -- maturity has a flow, whatever the coupon
  some_flow : check_linker_dates l evaluation ≡ Passed → (amount : ℕ → ℕ) → 0 < amount 0 → 1 ≤ length (flow_dates (due_on l evaluation) amount)
  some_flow passed amount some =
      let w = linker_dates_passed l evaluation passed in
      let due : due_on l evaluation 0 ≡ true =
      due_is l.terms (max (day_number evaluation) (day_number l.issue)) 0 (omega arith)
      ∙ lt-ltb (max (day_number evaluation) (day_number l.issue)) (coupon_day l.terms 0) (omega (arith, date_0 l.terms w.2, w.3, w.4)) in
      let flow = flow_of (due_on l evaluation) amount 0 (omega arith) (rw due (lt-ltb 0 (amount 0) some)) in
      omega (arith, flow.1)

  module _ (prices : List ℕ) (room : ℕ) (passed : check_linker l evaluation prices room ≡ Passed) where
    passed_parts : (check_linker_dates l evaluation ≡ Passed) × (check_form l.terms (length (dates_before_indexing l evaluation)) room ≡ Passed)
        × (check_coupons l evaluation prices ≡ Passed)
    unfolding check_linker
    passed_parts =
        let first = both_passed (check_linker_dates l evaluation) _ passed in
        let second = both_passed (check_form l.terms (length (dates_before_indexing l evaluation)) room) _ first.1 in
        let third = both_passed (check_prices prices) _ second.1 in
        let fourth = both_passed (check_months l prices) _ third.1 in
        (first.0, second.0, fourth.1)

    passed_form : (in_form l.terms ≡ true) × (length (dates_before_indexing l evaluation) ≤ 120)
    unfolding check_form
    passed_form =
        let all = both (in_form l.terms) _ (passed_then _ Passed 27 0 passed_parts.1).0 in
        let few = both (leb (length (dates_before_indexing l evaluation)) 120) _ all.1 in
        (all.0, leb-true (length (dates_before_indexing l evaluation)) 120 few.0)

    -- 32 bits hold every amount
    amount_small : (j : ℕ) → due_on l evaluation j ≡ true → indexed_amount l prices j < 4294967296
    unfolding check_coupons
    amount_small j due =
        let known = (linker_dates_passed l evaluation passed_parts.0).2 in
        let near = due_near l.terms (max (day_number evaluation) (day_number l.issue)) j passed_form.0 known due in
        let all = (passed_then (every (coupon_fits l evaluation prices) 1200) Passed 30 0 passed_parts.2).0 in
        let own : not (due_on l evaluation j) || leb (indexed_coupon l prices j) 10000000 ≡ true =
        every_each (coupon_fits l evaluation prices) 1200 all j near in
        let fits : leb (indexed_coupon l prices j) 10000000 ≡ true = rw due at own in
        omega (arith, leb-true (indexed_coupon l prices j) 10000000 fits, principal_most j)

    passed_some : 1 ≤ length (indexed_dates l evaluation prices)
    passed_some = some_flow passed_parts.0 (indexed_amount l prices) (omega (arith, principal_last))

    passed_few : length (indexed_dates l evaluation prices) ≤ 120
    passed_few = omega (arith, passed_form.1, indexed_fewer l (dated_linker passed_parts.0 passed_form.0) evaluation prices)

-- ---- the flows

passed_exactly : (l : Linker) (evaluation : Date) (prices old : List ℕ) → check_linker l evaluation prices (length old) ≡ Passed
    → Exactly l.terms (day_number evaluation) (max (day_number evaluation) (day_number l.issue)) (indexed_amount l prices) (buffer_after l evaluation prices old) (length (indexed_dates l evaluation prices))
unfolding buffer_after outcome_to
passed_exactly l evaluation prices old passed =
    let w = passed_parts l evaluation prices (length old) passed in
    let known = (linker_dates_passed l evaluation w.0).2 in
    rw passed
    (exactly_these l.terms (passed_form l evaluation prices (length old) passed).0 known (day_number evaluation) (max (day_number evaluation) (day_number l.issue)) (omega arith)
    (indexed_amount l prices) (amount_small l evaluation prices (length old) passed) old)

indexed_exactly : IndexedExactly
unfolding outcome_to
indexed_exactly l evaluation prices old n new d =
    let w = count_parts (check_linker l evaluation prices (length old)) (length (indexed_dates l evaluation prices)) n d.answered in
    rw (d.left, ← w.1) (passed_exactly l evaluation prices old w.0)

refused_unchanged : RefusedUnchanged
unfolding buffer_after
refused_unchanged l evaluation prices old refusal new d =
    d.left
    ∙ (ap (λ (n : ℕ). flows_in l evaluation prices n old) (none_written (outcome_to l evaluation prices (length old)) (number_of refusal) (item_of refusal) d.answered)
    ∙ filled_none (flow_byte (days_to l.terms evaluation) (indexed_amount l prices) (indexed_dates l evaluation prices)) old)

accepts : Accepts
unfolding check_linker check_form check_prices check_coupons
accepts l evaluation prices room dates formed few fits sound early lent small =
    let months = months_pass l (dated_linker l evaluation dates formed) prices early lent in
    let priced : every (λ i. within 1 10000000 (price_of prices i)) (length prices) ≡ true =
    every_all (λ i. within 1 10000000 (price_of prices i)) (length prices)
    (λ i low. let w = sound i low in rw (le-leb 1 (price_of prices i) w.0, le-leb (price_of prices i) 10000000 w.1) refl) in
    let coupons : every (coupon_fits l evaluation prices) 1200 ≡ true =
    every_all (coupon_fits l evaluation prices) 1200
    (λ j low. by_test (due_on l evaluation j)
    (λ t. rw (t, le-leb (indexed_coupon l prices j) 10000000 (small j t)) refl)
    (λ f. rw f refl)) in (
      rw
          (dates, formed, le-leb (length (dates_before_indexing l evaluation)) 120 few, le-leb (8 * length (dates_before_indexing l evaluation)) room fits, priced, months, coupons)
          refl,
      some_flow l evaluation dates (indexed_amount l prices) (omega (arith, principal_last)),
    )

-- ---- the answers' range

-- a finding that refuses does so by one of 25 to 30, with item 0
Refuses : Finding → Type 0
Refuses v = (number item : ℕ) → v ≡ Refused number item → In 25 30 number × (item ≡ 0)

refuses_then : (v w : Finding) → Refuses v → Refuses w → Refuses (and_then v w)
unfolding Refuses
refuses_then Passed w first second = second
refuses_then (Refused n i) w first second = first

refuses_test : (b : Bool) (v : Finding) (number : ℕ) → Refuses v → In 25 30 number → Refuses (if b then v else Refused number 0)
unfolding Refuses
refuses_test true v number rest low = rest
refuses_test false v number rest low = λ n i e.
    let own : number ≡ n = cc in
    let item : 0 ≡ i = cc in
    (rw own at low, sym item)

refuses_never : Refuses Passed
unfolding Refuses
refuses_never n i e = absurd (refused_not_passed (sym e))

-- 25 and 26 of two dates
refuses_dates : (first last : Date) → Refuses (check_dates first last)
unfolding check_dates
refuses_dates first last = refuses_test _ _ 25 (refuses_test _ Passed 26 refuses_never (omega arith, omega arith)) (omega arith, omega arith)

ranged_by : (v : Finding) (n : ℕ) → Refuses v → (v ≡ Passed → In 1 120 n) → Ranged (outcome_for v n)
unfolding Refuses
ranged_by Passed n refuses passed = passed refl
ranged_by (Refused number item) n refuses passed = refuses number item refl

pub outcomes_ranged : OutcomesRanged
unfolding outcome_to check_linker check_linker_dates check_form check_prices check_months check_coupons
outcomes_ranged l evaluation prices room =
    ranged_by _ (length (indexed_dates l evaluation prices))
    (refuses_then _ _ (refuses_test _ _ 25 (refuses_then _ _ (refuses_dates evaluation l.terms.maturity) (refuses_dates l.issue l.terms.maturity)) (omega arith, omega arith))
    (refuses_then _ _ (refuses_test _ Passed 27 refuses_never (omega arith, omega arith))
    (refuses_then _ _ (refuses_test _ Passed 28 refuses_never (omega arith, omega arith))
    (refuses_then _ _ (refuses_test _ Passed 29 refuses_never (omega arith, omega arith)) (refuses_test _ Passed 30 refuses_never (omega arith, omega arith))))))
    (λ passed. (passed_some l evaluation prices room passed, passed_few l evaluation prices room passed))

-- ---- months and coefficients

months_needed : MonthsNeeded
months_needed l evaluation prices passed formed lent = months_lent l (dated_linker l evaluation passed formed) prices lent

bases_largest : BasesLargest
bases_largest l prices formed known italia j =
    let is = base_by l prices formed known j true italia in
    record {
      issue = omega (arith, is, before_issue l prices formed known j);
      earlier = λ i low bears. omega (arith, is, before_coupon l prices formed known j i low bears);
      reached =
          ⊎_elim (λ e. inl (is ∙ e)) (λ w. inr (w.0, w.1, w.2, w.3 ∙ sym is)) (before_reached l prices formed known j);
    }

one_at_issue : OneAtIssue
unfolding over
one_at_issue l evaluation prices passed formed sound lent =
    let d = dated_linker l evaluation passed formed in
    let held = months_lent l d prices lent in
    let number = index_in prices sound (month_number l.issue) l.issue.day held.0 (omega (arith, held.1, in_order l.terms l.issue d)) (calendar_in l.issue d.known).1 in
    nearest_exact 100000 (issue_number l prices) (omega (arith, number.0))

-- ---- prices that do not change

-- of one price the index number is that price
flat_number : (prices : List ℕ) (p month day : ℕ) → ((i : ℕ) → i < length prices → price_of prices i ≡ p) → 3 ≤ month → month - 2 < length prices
    → In 1 (month_days month) day → index_number prices month day ≡ 10 * p
unfolding index_number
flat_number prices p month day same early lent held =
    let whole : month_days month - (day - 1) + (day - 1) ≡ month_days month = omega (arith, held.0, held.1) in
    let mean : 10 * (p * (month_days month - (day - 1)) + p * (day - 1)) ≡ 10 * p * month_days month =
    ap (λ (x : ℕ). 10 * x) (sym (mul-add p (month_days month - (day - 1)) (day - 1)) ∙ ap (λ (n : ℕ). p * n) whole) ∙ sym (mul_assoc 10 p (month_days month)) in
    rw (same (month - 3) (omega arith), same (month - 2) lent)
    (ap (λ (x : ℕ). nearest x (month_days month)) mean ∙ nearest_exact (10 * p) (month_days month) (omega (arith, (month_length month).0)))

-- of numbers that are all the same, so is the largest
flat_largest : (l : Linker) (prices : List ℕ) → in_form l.terms ≡ true → in_calendar l.terms.maturity ≡ true → (x j : ℕ) → issue_number l prices ≡ x
    → ((i : ℕ) → bears_coupon l i ≡ true → coupon_number l prices i ≡ x) → largest_before l prices j ≡ x
flat_largest l prices formed known x j issue numbers =
    ⊎_elim (λ e. e ∙ issue) (λ w. sym w.3 ∙ numbers w.0 w.2) (before_reached l prices formed known j)

flat_prices : FlatPrices
unfolding coupon_number over multiplied
flat_prices l evaluation prices p passed formed lent some same j bears =
    let d = dated_linker l evaluation passed formed in
    let held = months_lent l d prices lent in
    let numbers : (i : ℕ) → bears_coupon l i ≡ true → coupon_number l prices i ≡ 10 * p = λ i u.
    let month = bearing_month l d i u in
    flat_number prices p (coupon_month l.terms i) (coupon_date_day l i) same (omega (arith, held.0, month.0)) (omega (arith, held.1, month.1))
    (omega (arith, (calendar_in l.terms.maturity d.matures).1.0, (month_length (coupon_month l.terms i)).0), omega arith) in
    let issue : issue_number l prices ≡ 10 * p =
    flat_number prices p (month_number l.issue) l.issue.day same held.0 (omega (arith, held.1, (bearing_month l d j bears).0, (bearing_month l d j bears).1)) (calendar_in l.issue d.known).1 in
    let by : base l prices j ≡ 10 * p =
    by_test l.btp_italia
    (λ t. base_by l prices formed d.matures j true t ∙ flat_largest l prices formed d.matures (10 * p) j issue numbers)
    (λ f. base_by l prices formed d.matures j false f ∙ issue) in
    let one : over (coupon_number l prices j) (base l prices j) ≡ 100000 =
    rw (numbers j bears, by) (nearest_exact 100000 (10 * p) (omega (arith, some))) in
    let own : indexed_coupon l prices j ≡ coupon l.terms =
    ap (multiplied (coupon l.terms)) one ∙ nearest_exact (coupon l.terms) 100000 (omega arith) in
    omega (arith, own)

pub linkers_demand : LinkersDemand
linkers_demand =
    record {
      exactly = indexed_exactly;
      unchanged = refused_unchanged;
      accepts = accepts;
      ranged = outcomes_ranged;
      months = months_needed;
      largest = bases_largest;
      at-issue = one_at_issue;
      flat = flat_prices;
    }
