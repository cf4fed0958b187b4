-- What is turned away: refusals 25 to 30, in this order, with item 0.
use Rattle.std.specs.Prelude.{ℕ, ◌-◌, max, Bool, ◌&&◌, ◌||◌, not, List, length, leb, ltb, if◌then◌else◌}
use Rattle.calendar.specs.declared.Date.{Date}
use Rattle.linkers.specs.declared.Linker.{Linker}
use Rattle.numbers.specs.Findings.{Finding, Passed, Refused}
use Rattle.numbers.specs.Conditions.{within}
use Rattle.numbers.specs.Items.{and_then, every}
use Rattle.calendar.specs.Dates.{in_calendar, month_number, day_number}
use Rattle.schedule.specs.Terms.{coupon_month, due_after}
use Rattle.schedule.specs.Flows.{flow_dates}
use Rattle.schedule.specs.Check.{check_dates, check_form}
use Rattle.schedule.specs.Drawn.{amount_of}
use Rattle.linkers.specs.Numbers.{price_of, bears_coupon}
use Rattle.linkers.specs.Coefficients.{indexed_coupon}

-- "25 covers issue, 26 an issue not before maturity": W1's 25 and 26 of evaluation, and of issue, whose own 25 comes before any 26
unfoldable pub check_linker_dates : Linker → Date → Finding
check_linker_dates l evaluation =
    if in_calendar l.issue then and_then (check_dates evaluation l.terms.maturity) (check_dates l.issue l.terms.maturity) else Refused 25 0

-- "on dates after both evaluation and issue": date j
abbrev pub due_on : Linker → Date → ℕ → Bool
due_on l evaluation j = due_after l.terms (max (day_number evaluation) (day_number l.issue)) j

-- "27 the flows before indexing, on dates after both evaluation and issue": their dates, with W1's coupons
abbrev pub dates_before_indexing : Linker → Date → List ℕ
dates_before_indexing l evaluation = flow_dates (due_on l evaluation) (amount_of l.terms)

-- "28 a lent price of 0 or above 10,000,000"
unfoldable pub check_prices : List ℕ → Finding
check_prices prices = if every (λ i. within 1 10000000 (price_of prices i)) (length prices) then Passed else Refused 28 0

-- so many months before this one there is a month, not before January 2000, whose price is lent
abbrev pub has_price : List ℕ → ℕ → ℕ → Bool
has_price prices month back = leb back month && ltb (month - back) (length prices)

-- a date in this month has the prices of the months that it needs: "(two of them, on day 1 too)"
abbrev pub priced : List ℕ → ℕ → Bool
priced prices month = has_price prices month 3 && has_price prices month 2

-- "29 a month that issue or a coupon date after it needs .., without a price"; the dates are among the first 1,200 places, as in
-- `largest_before`
unfoldable pub check_months : Linker → List ℕ → Finding
check_months l prices =
    if priced prices (month_number l.issue) && every (λ j. not (bears_coupon l j) || priced prices (coupon_month l.terms j)) 1200
    then Passed
    else Refused 29 0

-- "30 an indexed coupon above 10,000,000": of those on dates after both evaluation and issue, without the principal
unfoldable pub check_coupons : Linker → Date → List ℕ → Finding
check_coupons l evaluation prices =
    if every (λ j. not (due_on l evaluation j) || leb (indexed_coupon l prices j) 10000000) 1200 then Passed else Refused 30 0

-- "Numbers 25 to 27 come first", and then 28 to 30, for a buffer of so many bytes
unfoldable pub check_linker : Linker → Date → List ℕ → ℕ → Finding
check_linker l evaluation prices room =
    and_then (check_linker_dates l evaluation)
    (and_then (check_form l.terms (length (dates_before_indexing l evaluation)) room)
    (and_then (check_prices prices) (and_then (check_months l prices) (check_coupons l evaluation prices))))
