-- The written flows are exactly the dates with an amount above 0, each once, in rising order: `flows_demand`.
-- Assumes nothing.
use Prim.Native.Nat.{ℕ, ◌+◌, ◌-◌, ◌*◌, ◌≤◌, ◌<◌}
use mathlib.Core.Bool.{true, ◌&&◌}
use mathlib.Core.List.{List}
use mathlib.Core.Path.{◌≡◌, refl, ap, ◌∙◌}
use native.Mathlib.Nat.{le_refl}
use native.Mathlib.Omega.{arith}
use borrow.Author.Tests.{ltb-true, leb-true, lt-ltb, le-leb}
use lib.Dec.{ltb, leb}
use lib.ListN.{length, get_or}
use Rattle.calendar.specs.declared.Date.{Date}
use Rattle.schedule.specs.declared.Terms.{Terms}
use Rattle.numbers.specs.Findings.{Finding, Passed, Refused, number_of, item_of}
use Rattle.numbers.proofs.Items.{by_test, both, both_passed}
use Rattle.numbers.proofs.Buffers.{filled_none}
use Rattle.reading.proofs.Forms.{passed_then}
use Rattle.calendar.specs.Dates.{in_calendar, day_number}
use Rattle.reading.specs.Flows.{flow_days}
use Rattle.schedule.specs.Terms.{coupon_day, due_after, principal, coupon}
use Rattle.schedule.specs.Flows.{flow_dates, flow_byte, records_in}
use Rattle.schedule.specs.Check.{check_dates, in_form, check_form}
use Rattle.schedule.specs.Drawn.{days_to, amount_of, dates_of, Outcome, Count, Refusal, outcome_for, check_terms, outcome_to, written, buffer_after}
use Rattle.schedule.specs.InnerContracts.{Dated, countdown}
use Rattle.schedule.specs.Exactly.{IsFlow, Exactly, FlowsExactly, RefusedUnchanged, Accepts, ZeroCoupons, OutcomesRanged, FlowsDemand}
use Rattle.schedule.proofs.CouponDates.{rate_most, due_parts, dates_fall, due_near, coupon_bound, due_0}
use Rattle.schedule.proofs.FlowDates.{flow_date, flow_order, flow_of}
use Rattle.schedule.proofs.Counting.{coupon_most, principal_last, principal_most, zero_flows}
use Rattle.schedule.proofs.FlowBytes.{read_days, read_zero, read_amount}
use Rattle.schedule.proofs.Drawing.{dated}

-- ---- for any amounts that 32 bits hold on dates that are due, and dates after any day that is not before `from`

module _ (t : Terms) (formed : in_form t ≡ true) (known : in_calendar t.maturity ≡ true) (from after : ℕ) (later : from ≤ after)
    (amount : ℕ → ℕ) (small : (j : ℕ) → due_after t after j ≡ true → amount j < 4294967296) (old : List ℕ) where
  abbrev dates : List ℕ
  dates = flow_dates (due_after t after) amount

  abbrev bytes : List ℕ
  bytes = records_in (λ j. coupon_day t j - from) amount dates (length dates) old

  -- record r is the flow of its date, which is due and pays something
  paying : (r : ℕ) → r < length dates → (due_after t after (get_or dates r 0) ≡ true) × (0 < amount (get_or dates r 0))
  paying r low =
      let w = both (due_after t after (get_or dates r 0)) (ltb 0 (amount (get_or dates r 0))) (flow_date (due_after t after) amount r low).0 in
      (w.0, ltb-true 0 (amount (get_or dates r 0)) w.1)

  days_held : (r : ℕ) → r < length dates → flow_days bytes r ≡ coupon_day t (get_or dates r 0) - from
  days_held r low =
      read_days (λ j. coupon_day t j - from) amount dates (length dates) old r low (omega (arith, coupon_bound t (get_or dates r 0) known))

  is_flow : (r j : ℕ) → r < length dates → get_or dates r 0 ≡ j → IsFlow t from amount bytes r j
  is_flow r j low is =
      record {
        days =
            rw (← is)
            (omega (arith, days_held r low, later, (due_parts t after (get_or dates r 0) (paying r low).0).1));
        zero = read_zero (λ j. coupon_day t j - from) amount dates (length dates) old r low;
        pays = rw (← is) (read_amount (λ j. coupon_day t j - from) amount dates (length dates) old r low (small (get_or dates r 0) (paying r low).0));
      }

  rise : (r s : ℕ) → r < s → s < length dates → flow_days bytes r < flow_days bytes s
  rise r s low high =
      let there : r < length dates = omega arith in
      let further : get_or dates s 0 < get_or dates r 0 = flow_order (due_after t after) amount r s low high in
      let first = due_parts t after (get_or dates r 0) (paying r there).0 in
      omega
      (arith, days_held r there, days_held s high, later, first.1, dates_fall t formed (get_or dates s 0) (get_or dates r 0) further first.0)

  has_flow : (j : ℕ) → due_after t after j ≡ true → 0 < amount j → (r : ℕ) × (r < length dates) × IsFlow t from amount bytes r j
  has_flow j due pays =
      let w = flow_of (due_after t after) amount j (due_near t after j formed known due) (rw due (lt-ltb 0 (amount j) pays)) in
      (w.0, w.1, is_flow w.0 j w.1 w.2)

  pub exactly_these : Exactly t from after amount bytes (length dates)
  exactly_these =
      record {
        rising = rise;
        dated = λ r low. (get_or dates r 0, (paying r low).0, (paying r low).1, is_flow r (get_or dates r 0) low refl);
        whole = has_flow;
      }

-- ---- of terms that are not refused

-- what a pass says
module _ (t : Terms) (evaluation : Date) (room : ℕ) (passed : check_terms t evaluation room ≡ Passed) where
  pub passed_dates : check_dates evaluation t.maturity ≡ Passed
  unfolding check_terms
  passed_dates = (both_passed (check_dates evaluation t.maturity) (check_form t (length (dates_of t evaluation)) room) passed).0

  pub passed_form : in_form t ≡ true
  unfolding check_terms check_form
  passed_form =
      let w = (both_passed (check_dates evaluation t.maturity) (check_form t (length (dates_of t evaluation)) room) passed).1 in
      (both (in_form t) (leb (length (dates_of t evaluation)) 120 && leb (8 * length (dates_of t evaluation)) room)
      (passed_then (in_form t && (leb (length (dates_of t evaluation)) 120 && leb (8 * length (dates_of t evaluation)) room)) Passed 27 0 w).0).0

-- 32 bits hold every amount
amount_small : (t : Terms) → in_form t ≡ true → (j : ℕ) → amount_of t j < 4294967296
amount_small t formed j = omega (arith, coupon_most t formed, rate_most t formed, principal_most j)

-- a number of flows comes of a check that passed, and is theirs
pub count_parts : (v : Finding) (held n : ℕ) → Count n ≡ outcome_for v held → (v ≡ Passed) × (held ≡ n)
count_parts Passed held n e = (refl, cc)
count_parts (Refused number item) held n e = absurd (let z : ◌≡◌ {A = ℕ} 0 1 = cc in omega arith)

-- a refusal writes nothing
pub none_written : (o : Outcome) (number item : ℕ) → Refusal number item ≡ o → written o ≡ 0
none_written (Count n) number item e = absurd (let z : ◌≡◌ {A = ℕ} 0 1 = cc in omega arith)
none_written (Refusal number' item') number item e = refl

passed_exactly : (t : Terms) (evaluation : Date) (old : List ℕ) → check_terms t evaluation (length old) ≡ Passed
    → Exactly t (day_number evaluation) (day_number evaluation) (amount_of t) (buffer_after t evaluation old) (length (dates_of t evaluation))
unfolding buffer_after outcome_to
passed_exactly t evaluation old passed =
    let formed = passed_form t evaluation (length old) passed in
    let d = dated t evaluation (passed_dates t evaluation (length old) passed) formed in
    rw passed
    (exactly_these t formed d.matures (day_number evaluation) (day_number evaluation) (le_refl (day_number evaluation)) (amount_of t) (λ j due. amount_small t formed j) old)

flows_exactly : FlowsExactly
unfolding outcome_to
flows_exactly t evaluation old n new d =
    let w = count_parts (check_terms t evaluation (length old)) (length (dates_of t evaluation)) n d.answered in
    rw (d.left, ← w.1) (passed_exactly t evaluation old w.0)

refused_unchanged : RefusedUnchanged
unfolding buffer_after
refused_unchanged t evaluation old refusal new d =
    d.left
    ∙ (ap (λ (n : ℕ). records_in (days_to t evaluation) (amount_of t) (dates_of t evaluation) n old) (none_written (outcome_to t evaluation (length old)) (number_of refusal) (item_of refusal) d.answered)
    ∙ filled_none (flow_byte (days_to t evaluation) (amount_of t) (dates_of t evaluation)) old)

-- maturity has a flow
some_flow : (t : Terms) (evaluation : Date) → Dated t evaluation → 1 ≤ length (dates_of t evaluation)
some_flow t evaluation d =
    let flow = flow_of (due_after t (day_number evaluation)) (amount_of t) 0 (omega arith)
    (rw (due_0 t evaluation d) (lt-ltb 0 (coupon t + principal 0) (omega (arith, principal_last)))) in
    omega (arith, flow.1)

accepts : Accepts
unfolding check_terms check_form
accepts t evaluation room dates formed few fits = (
  rw (dates, formed, le-leb (length (dates_of t evaluation)) 120 few, le-leb (8 * length (dates_of t evaluation)) room fits) refl,
  some_flow t evaluation (dated t evaluation dates formed),
)

one_flow_lem : ZeroCoupons
unfolding countdown
one_flow_lem t evaluation dates formed none = zero_flows t evaluation (dated t evaluation dates formed) none

pub outcomes_ranged : OutcomesRanged
unfolding outcome_to check_terms check_dates check_form
outcomes_ranged t evaluation room =
    by_test (in_calendar evaluation && in_calendar t.maturity)
    (λ known. by_test (ltb (day_number evaluation) (day_number t.maturity))
    (λ later. by_test (in_form t && (leb (length (dates_of t evaluation)) 120 && leb (8 * length (dates_of t evaluation)) room))
    (λ good.
    let formed = both (in_form t) (leb (length (dates_of t evaluation)) 120 && leb (8 * length (dates_of t evaluation)) room) good in
    let few = both (leb (length (dates_of t evaluation)) 120) (leb (8 * length (dates_of t evaluation)) room) formed.1 in
    rw (known, later, good)
    (some_flow t evaluation (dated t evaluation (rw (known, later) refl) formed.0), leb-true (length (dates_of t evaluation)) 120 few.0))
    (λ bad. rw (known, later, bad) ((omega arith, omega arith), refl)))
    (λ not-later. rw (known, not-later) ((omega arith, omega arith), refl)))
    (λ unknown. rw unknown ((omega arith, omega arith), refl))

pub flows_demand : FlowsDemand
flows_demand = record { exactly = flows_exactly; unchanged = refused_unchanged; accepts = accepts; zero-coupons = one_flow_lem; ranged = outcomes_ranged }
