-- What the written flows are: "The flows written are exactly the dates with an amount above 0, each once, in rising order as the
-- book's flow records." Read back as a book's flows are (`flow_days`, `flow_zero`, `flow_amount`), of any buffer after a call.
use Rattle.std.specs.Prelude.{ℕ, ◌+◌, ◌*◌, ◌≤◌, ◌<◌, true, List, [], ◌∷◌, ◌≡◌, length, Ok, Err}
use Rattle.calendar.specs.declared.Date.{Date}
use Rattle.schedule.specs.declared.Terms.{Terms}
use Rattle.numbers.specs.declared.error.Refusal.{Refusal as Reason}
use Rattle.numbers.specs.Findings.{Passed}
use Rattle.numbers.specs.Conditions.{In}
use Rattle.calendar.specs.Dates.{day_number}
use Rattle.reading.specs.Flows.{flow_days, flow_zero, flow_amount}
use Rattle.schedule.specs.Terms.{coupon_day, due_after}
use Rattle.schedule.specs.Check.{check_dates, in_form}
use Rattle.schedule.specs.Drawn.{amount_of, dates_of, Outcome, Count, Refusal, check_terms, outcome_to, Drawn}

-- record r of these bytes is the flow of date j: its days lead from day `from` to the date, and it pays `amount j`
pub record IsFlow (t : Terms) (from : ℕ) (amount : ℕ → ℕ) (bytes : List ℕ) (r j : ℕ) : Type 0 where
  pub days : from + flow_days bytes r ≡ coupon_day t j
  pub zero : flow_zero bytes r ≡ 0
  pub pays : flow_amount bytes r ≡ amount j

-- the first n records of these bytes are exactly the dates after day `after` with an amount above 0
pub record Exactly (t : Terms) (from after : ℕ) (amount : ℕ → ℕ) (bytes : List ℕ) (n : ℕ) : Type 0 where
  -- days strictly rise: none stands twice, and all in their order
  pub rising : (r s : ℕ) → r < s → s < n → flow_days bytes r < flow_days bytes s
  -- every record is the flow of a date that is due, and its amount is above 0
  pub dated : (r : ℕ) → r < n → (j : ℕ) × (due_after t after j ≡ true) × (0 < amount j) × IsFlow t from amount bytes r j
  -- every date that is due, with an amount above 0, has its record
  pub whole : (j : ℕ) → due_after t after j ≡ true → 0 < amount j → (r : ℕ) × (r < n) × IsFlow t from amount bytes r j

-- of every call that gives a number of flows: so many, and the bytes that it left
abbrev pub FlowsExactly : Type 0
FlowsExactly = (t : Terms) (evaluation : Date) (old : List ℕ) (n : ℕ) (new : List ℕ) → Drawn t evaluation old (Ok n) new
    → Exactly t (day_number evaluation) (day_number evaluation) (amount_of t) new n

-- of every call that gives a refusal: no byte changed
abbrev pub RefusedUnchanged : Type 0
RefusedUnchanged = (t : Terms) (evaluation : Date) (old : List ℕ) (refusal : Reason) (new : List ℕ) → Drawn t evaluation old (Err refusal) new → new ≡ old

-- these are about something: terms in form, dates in order and room for the flows are not refused, and there is a flow at least
abbrev pub Accepts : Type 0
Accepts = (t : Terms) (evaluation : Date) (room : ℕ) → check_dates evaluation t.maturity ≡ Passed → in_form t ≡ true → length (dates_of t evaluation) ≤ 120
    → 8 * length (dates_of t evaluation) ≤ room → (check_terms t evaluation room ≡ Passed) × (1 ≤ length (dates_of t evaluation))

-- "a zero coupon is left out": without coupons there is one flow, at maturity, however far that is
abbrev pub ZeroCoupons : Type 0
ZeroCoupons = (t : Terms) (evaluation : Date) → check_dates evaluation t.maturity ≡ Passed → in_form t ≡ true → t.rate ≡ 0 → dates_of t evaluation ≡ 0 ∷ []

-- what terms come to is 1 to 120 flows, or one of the numbers 25 to 27 with item 0: "Turned away: 25 .. 26 .. 27"
abbrev pub Ranged : Outcome → Type 0
Ranged (Count count) = In 1 120 count
Ranged (Refusal number item) = In 25 27 number × (item ≡ 0)

abbrev pub OutcomesRanged : Type 0
OutcomesRanged = (t : Terms) (evaluation : Date) (room : ℕ) → Ranged (outcome_to t evaluation room)

-- ---- one statement of all

pub record FlowsDemand : Type 0 where
  pub exactly : FlowsExactly
  pub unchanged : RefusedUnchanged
  pub accepts : Accepts
  pub zero-coupons : ZeroCoupons
  pub ranged : OutcomesRanged
