-- What a bond's terms come to on a day, and what the lent buffer then holds.
use Rattle.std.specs.Prelude.{ℕ, ◌-◌, List, ◌≡◌, length, Result, Ok, Err}
use Rattle.calendar.specs.declared.Date.{Date}
use Rattle.schedule.specs.declared.Terms.{Terms}
use Rattle.numbers.specs.declared.error.Refusal.{Refusal as Reason}
use Rattle.numbers.specs.Findings.{Finding, Passed, Refused, number_of, item_of}
use Rattle.numbers.specs.Items.{and_then}
use Rattle.calendar.specs.Dates.{day_number}
use Rattle.schedule.specs.Terms.{coupon_day, due_after, coupon, amount_on}
use Rattle.schedule.specs.Flows.{flow_dates, records_in}
use Rattle.schedule.specs.Check.{check_dates, check_form}

-- ---- the flows of a bond

-- "A flow's days run from evaluation to its date."
abbrev pub days_to : Terms → Date → ℕ → ℕ
days_to t evaluation j = coupon_day t j - day_number evaluation

-- what is paid on date j
abbrev pub amount_of : Terms → ℕ → ℕ
amount_of t = amount_on (λ j. coupon t)

-- the dates with a flow, after evaluation
abbrev pub dates_of : Terms → Date → List ℕ
dates_of t evaluation = flow_dates (due_after t (day_number evaluation)) (amount_of t)

-- ---- what they come to

-- so many flows, or a refusal's "number and item index"
pub data Outcome : Type 0 where
  Count : ℕ → Outcome
  Refusal : ℕ → ℕ → Outcome

-- "Where an answer is an enum, a definition gives this paper's number and values for each of the enum's cases.": of the entry's
-- answer, how many flows or a `numbers::Refusal`
abbrev pub outcome_of : Result ℕ Reason → Outcome
outcome_of (Ok count) = Count count
outcome_of (Err refusal) = Refusal (number_of refusal) (item_of refusal)

-- so many flows where the check passes, else its refusal
abbrev pub outcome_for : Finding → ℕ → Outcome
outcome_for Passed count = Count count
outcome_for (Refused number item) count = Refusal number item

-- refusals 25 to 27, in this order
unfoldable pub check_terms : Terms → Date → ℕ → Finding
check_terms t evaluation room = and_then (check_dates evaluation t.maturity) (check_form t (length (dates_of t evaluation)) room)

-- "write the bond's flows and return how many": for terms, an evaluation date and a buffer of so many bytes
unfoldable pub outcome_to : Terms → Date → ℕ → Outcome
outcome_to t evaluation room = outcome_for (check_terms t evaluation room) (length (dates_of t evaluation))

-- how many flows are then written: none where the terms are refused
abbrev pub written : Outcome → ℕ
written (Count count) = count
written (Refusal number item) = 0

-- what a buffer then holds that held `old`: the flows, and later bytes as they were
unfoldable pub buffer_after : Terms → Date → List ℕ → List ℕ
buffer_after t evaluation old =
    records_in (days_to t evaluation) (amount_of t) (dates_of t evaluation) (written (outcome_to t evaluation (length old))) old

-- ---- the answer and every byte, for any terms, any evaluation date and any buffer

pub record Drawn (t : Terms) (evaluation : Date) (old : List ℕ) (answer : Result ℕ Reason) (new : List ℕ) : Type 0 where
  pub answered : outcome_of answer ≡ outcome_to t evaluation (length old)
  pub left : new ≡ buffer_after t evaluation old
