-- The ends of a call: each refusal, and the flows.
-- Assumes nothing.
use Rattle.std.specs.Prelude.{Result, Ok, Err, if◌then◌else◌}
use Prim.Native.Nat.{ℕ, ◌*◌, ◌≤◌, ◌<◌}
use mathlib.Core.Bool.{Bool, true, false, ◌&&◌, ◌||◌}
use mathlib.Core.List.{List}
use mathlib.Core.Logic.{⊎_elim}
use mathlib.Core.Path.{◌≡◌, refl, sym, ap, ◌∙◌}
use native.Mathlib.Omega.{arith}
use borrow.Author.Tests.{leb-true, ltb-true, ltb-false, le-leb, lt-ltb}
use lib.Dec.{leb, ltb}
use lib.ListN.{length}
use Rattle.calendar.specs.declared.Date.{Date}
use Rattle.schedule.specs.declared.Terms.{Terms}
use Rattle.numbers.specs.declared.error.Refusal.{Refusal as Reason}
use Rattle.calendar.specs.Dates.{in_calendar, day_number}
use Rattle.numbers.specs.Findings.{Finding, Passed, Refused, number_of, item_of}
use Rattle.numbers.specs.Items.{and_then}
use Rattle.numbers.proofs.Findings.{refusal_only}
use Rattle.numbers.proofs.Items.{by_test, both, either, neither, and_false, refused_not_passed}
use Rattle.numbers.proofs.Buffers.{filled_none}
use Rattle.reading.proofs.Forms.{passed_then}
use Rattle.schedule.specs.Flows.{flow_byte, records_in}
use Rattle.schedule.specs.Check.{check_dates, in_form, check_form}
use Rattle.schedule.specs.Drawn.{days_to, amount_of, dates_of, outcome_of, check_terms, outcome_to, buffer_after, Drawn}
use Rattle.schedule.specs.InnerContracts.{check_bond, Dated, countdown}
use Rattle.schedule.proofs.FlowDates.{countdown_of}

-- ---- the definition of what an answer says loses nothing of it

-- two answers that say the same are the same
pub outcome_only : (a b : Result ℕ Reason) → outcome_of a ≡ outcome_of b → a ≡ b
outcome_only (Ok count) (Ok count') e = cc
outcome_only (Ok count) (Err b) e = absurd (let z : ◌≡◌ {A = ℕ} 0 1 = cc in omega arith)
outcome_only (Err a) (Ok count) e = absurd (let z : ◌≡◌ {A = ℕ} 0 1 = cc in omega arith)
outcome_only (Err a) (Err b) e =
    let number : number_of a ≡ number_of b = cc in
    let item : item_of a ≡ item_of b = cc in
    ap (λ (r : Reason). Err r) (refusal_only a b number item)

-- ---- what a pass of 25 and 26 says

module _ (evaluation maturity : Date) where
  pub dates_passed : check_dates evaluation maturity ≡ Passed → (in_calendar evaluation ≡ true) × (in_calendar maturity ≡ true) × (day_number evaluation < day_number maturity)
  unfolding check_dates
  dates_passed e =
      let first = passed_then (in_calendar evaluation && in_calendar maturity) (if ltb (day_number evaluation) (day_number maturity) then Passed else Refused 26 0) 25 0 e in
      let known = both (in_calendar evaluation) (in_calendar maturity) first.0 in
      let later = passed_then (ltb (day_number evaluation) (day_number maturity)) Passed 26 0 first.1 in
      (known.0, known.1, ltb-true (day_number evaluation) (day_number maturity) later.0)

-- a refusal stays one where more is tested
pub still_refused : (v : Finding) (first more : Bool) (number item : ℕ) → and_then v (if first then Passed else Refused 27 0) ≡ Refused number item
    → and_then v (if first && more then Passed else Refused 27 0) ≡ Refused number item
still_refused (Refused n i) first more number item e = e
still_refused Passed true more number item e = absurd (refused_not_passed (sym e))
still_refused Passed false more number item e = e

-- 27 by the number of flows and the buffer's bytes: the code's test is the definition's, turned round
module _ (t : Terms) (count room : ℕ) where
  enough : ltb 120 count || ltb room (8 * count) ≡ false → (count ≤ 120) × (8 * count ≤ room)
  enough f = let w = neither (ltb 120 count) (ltb room (8 * count)) f in (ltb-false 120 count w.0, ltb-false room (8 * count) w.1)

  too_many_lem : ltb 120 count || ltb room (8 * count) ≡ true → leb count 120 && leb (8 * count) room ≡ false
  too_many_lem t =
      by_test (leb count 120 && leb (8 * count) room)
      (λ all.
      let w = both (leb count 120) (leb (8 * count) room) all in
      ⊎_elim
      (λ many. absurd (omega (arith, ltb-true 120 count many, leb-true count 120 w.0)))
      (λ short. absurd (omega (arith, ltb-true room (8 * count) short, leb-true (8 * count) room w.1)))
      (either (ltb 120 count) (ltb room (8 * count)) t))
      (λ f. f)

  pub flows_refused : ltb 120 count || ltb room (8 * count) ≡ true → check_form t count room ≡ Refused 27 0
  unfolding check_form
  flows_refused which = rw (too_many_lem which, and_false (in_form t)) refl

  pub flows_pass : in_form t ≡ true → ltb 120 count || ltb room (8 * count) ≡ false → check_form t count room ≡ Passed
  unfolding check_form
  flows_pass formed f = let w = enough f in rw (formed, le-leb count 120 w.0, le-leb (8 * count) room w.1) refl

module _ (t : Terms) (evaluation : Date) where
  pub dated : check_dates evaluation t.maturity ≡ Passed → in_form t ≡ true → Dated t evaluation
  dated passed formed =
      let w = dates_passed evaluation t.maturity passed in record { formed = formed; matures = w.1; known = w.0; before = w.2 }

  -- ---- the ends

  -- a finding of the whole check that is a refusal
  pub refusal_drawn : (old : List ℕ) (refusal : Reason) → check_terms t evaluation (length old) ≡ Refused (number_of refusal) (item_of refusal)
      → Drawn t evaluation old (Err refusal) old
  unfolding outcome_to buffer_after
  refusal_drawn old refusal e =
      record {
        answered = rw e refl;
        left = rw e (sym (filled_none (flow_byte (days_to t evaluation) (amount_of t) (dates_of t evaluation)) old));
      }

  -- 25 or 26
  pub dates_refused : (number item : ℕ) → check_dates evaluation t.maturity ≡ Refused number item → check_bond t evaluation ≡ Refused number item
  dates_refused number item e = rw e refl

  -- 27: frequency or rate
  pub form_refused : check_dates evaluation t.maturity ≡ Passed → in_form t ≡ false → check_bond t evaluation ≡ Refused 27 0
  form_refused passed f = rw (passed, f) refl

  -- whatever the buffer
  pub bond_refused : (room number item : ℕ) → check_bond t evaluation ≡ Refused number item → check_terms t evaluation room ≡ Refused number item
  unfolding check_terms check_form
  bond_refused room number item e =
      still_refused (check_dates evaluation t.maturity) (in_form t) (leb (length (dates_of t evaluation)) 120 && leb (8 * length (dates_of t evaluation)) room) number item e

  module _ (d : Dated t evaluation) where
    -- dates in order pass
    pub dates_pass : check_dates evaluation t.maturity ≡ Passed
    unfolding check_dates
    dates_pass = rw (d.known, d.matures, lt-ltb (day_number evaluation) (day_number t.maturity) d.before) refl

    module _ (room count : ℕ) (is : dates_of t evaluation ≡ countdown count) where
      -- 27: too many flows, or a short buffer
      pub room_refused : ltb 120 count || ltb room (8 * count) ≡ true → check_terms t evaluation room ≡ Refused 27 0
      unfolding check_terms
      room_refused which =
          rw (dates_pass, countdown_of count (dates_of t evaluation) is) (flows_refused t count room which)

      -- nothing is refused
      pub all_passed : ltb 120 count || ltb room (8 * count) ≡ false → check_terms t evaluation room ≡ Passed
      unfolding check_terms
      all_passed f = rw (dates_pass, countdown_of count (dates_of t evaluation) is) (flows_pass t count room d.formed f)

    -- the flows
    pub flows_drawn : (old new : List ℕ) (count : ℕ) → dates_of t evaluation ≡ countdown count → ltb 120 count || ltb (length old) (8 * count) ≡ false
        → new ≡ records_in (days_to t evaluation) (amount_of t) (dates_of t evaluation) count old → Drawn t evaluation old (Ok count) new
    unfolding outcome_to buffer_after
    flows_drawn old new count is f put =
        let passed = all_passed (length old) count is f in
        let number_of_lem = countdown_of count (dates_of t evaluation) is in
        record { answered = rw (passed, number_of_lem) refl; left = put ∙ rw (passed, number_of_lem) refl }
