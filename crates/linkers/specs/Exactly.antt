-- What the written flows are: W1's theorem of the indexed amounts; and what coefficients and needed months come to.
use Rattle.std.specs.Prelude.{ℕ, ◌-◌, ◌*◌, ◌≤◌, ◌<◌, max, true, List, ◌≡◌, ◌⊎◌, length, Ok, Err}
use Rattle.calendar.specs.declared.Date.{Date}
use Rattle.linkers.specs.declared.Linker.{Linker}
use Rattle.numbers.specs.declared.error.Refusal.{Refusal as Reason}
use Rattle.numbers.specs.Findings.{Passed}
use Rattle.numbers.specs.Conditions.{In}
use Rattle.calendar.specs.Dates.{in_calendar, month_number, day_number}
use Rattle.schedule.specs.Check.{in_form}
use Rattle.schedule.specs.Drawn.{amount_of, Outcome, Count, Refusal}
use Rattle.schedule.specs.Exactly.{Exactly}
use Rattle.linkers.specs.Numbers.{price_of, issue_number, coupon_number, bears_coupon}
use Rattle.linkers.specs.Coefficients.{base, over, indexed_coupon, indexed_amount}
use Rattle.linkers.specs.Check.{check_linker_dates, due_on, dates_before_indexing, check_prices, check_months, check_linker}
use Rattle.linkers.specs.Drawn.{indexed_dates, outcome_to, Drawn}

-- ---- the flows

-- of every call that gives a number of flows: so many, and the bytes that it left, are exactly the dates after both evaluation and
-- issue with an amount above 0, in rising order, their days counted from evaluation
abbrev pub IndexedExactly : Type 0
IndexedExactly = (l : Linker) (evaluation : Date) (prices old : List ℕ) (n : ℕ) (new : List ℕ) → Drawn l evaluation prices old (Ok n) new
    → Exactly l.terms (day_number evaluation) (max (day_number evaluation) (day_number l.issue)) (indexed_amount l prices) new n

-- of every call that gives a refusal: no byte changed
abbrev pub RefusedUnchanged : Type 0
RefusedUnchanged = (l : Linker) (evaluation : Date) (prices old : List ℕ) (refusal : Reason) (new : List ℕ)
    → Drawn l evaluation prices old (Err refusal) new → new ≡ old

-- these are about something: what meets none of 25 to 30 is not refused, and there is a flow at least
abbrev pub Accepts : Type 0
Accepts = (l : Linker) (evaluation : Date) (prices : List ℕ) (room : ℕ) → check_linker_dates l evaluation ≡ Passed → in_form l.terms ≡ true
    → length (dates_before_indexing l evaluation) ≤ 120 → 8 * length (dates_before_indexing l evaluation) ≤ room
    → ((i : ℕ) → i < length prices → In 1 10000000 (price_of prices i))
    → 3 ≤ month_number l.issue → month_number l.terms.maturity - 2 < length prices
    → ((j : ℕ) → due_on l evaluation j ≡ true → indexed_coupon l prices j ≤ 10000000)
    → (check_linker l evaluation prices room ≡ Passed) × (1 ≤ length (indexed_dates l evaluation prices))

-- what terms and prices come to is 1 to 120 flows, or one of the numbers 25 to 30 with item 0
abbrev pub Ranged : Outcome → Type 0
Ranged (Count count) = In 1 120 count
Ranged (Refusal number item) = In 25 30 number × (item ≡ 0)

abbrev pub OutcomesRanged : Type 0
OutcomesRanged = (l : Linker) (evaluation : Date) (prices : List ℕ) (room : ℕ) → Ranged (outcome_to l evaluation prices room)

-- ---- months

-- what 29 asks is no less than what `Accepts` takes: the price of three months before issue, and of two before maturity
abbrev pub MonthsNeeded : Type 0
MonthsNeeded = (l : Linker) (evaluation : Date) (prices : List ℕ) → check_linker_dates l evaluation ≡ Passed → in_form l.terms ≡ true
    → check_months l prices ≡ Passed → (3 ≤ month_number l.issue) × (month_number l.terms.maturity - 2 < length prices)

-- ---- coefficients

-- what date j's number is divided by: no earlier coupon's number is larger, nor the issue's, and it is one of these
pub record LargestOf (l : Linker) (prices : List ℕ) (j : ℕ) : Type 0 where
  pub issue : issue_number l prices ≤ base l prices j
  pub earlier : (i : ℕ) → j < i → bears_coupon l i ≡ true → coupon_number l prices i ≤ base l prices j
  pub reached : (base l prices j ≡ issue_number l prices) ⊎ ((i : ℕ) × (j < i) × (bears_coupon l i ≡ true) × (coupon_number l prices i ≡ base l prices j))

-- of every BTP Italia
abbrev pub BasesLargest : Type 0
BasesLargest = (l : Linker) (prices : List ℕ) → in_form l.terms ≡ true → in_calendar l.terms.maturity ≡ true → l.btp_italia ≡ true
    → (j : ℕ) → LargestOf l prices j

-- "at issue it is 1": the issue's number by itself
abbrev pub OneAtIssue : Type 0
OneAtIssue = (l : Linker) (evaluation : Date) (prices : List ℕ) → check_linker_dates l evaluation ≡ Passed → in_form l.terms ≡ true
    → check_prices prices ≡ Passed → check_months l prices ≡ Passed → over (issue_number l prices) (issue_number l prices) ≡ 100000

-- where no price changes nothing does: each amount is that of W1
abbrev pub FlatPrices : Type 0
FlatPrices = (l : Linker) (evaluation : Date) (prices : List ℕ) (p : ℕ) → check_linker_dates l evaluation ≡ Passed → in_form l.terms ≡ true
    → check_months l prices ≡ Passed → 1 ≤ p → ((i : ℕ) → i < length prices → price_of prices i ≡ p)
    → (j : ℕ) → bears_coupon l j ≡ true → indexed_amount l prices j ≡ amount_of l.terms j

-- ---- one statement of all

pub record LinkersDemand : Type 0 where
  pub exactly : IndexedExactly
  pub unchanged : RefusedUnchanged
  pub accepts : Accepts
  pub ranged : OutcomesRanged
  pub months : MonthsNeeded
  pub largest : BasesLargest
  pub at-issue : OneAtIssue
  pub flat : FlatPrices
