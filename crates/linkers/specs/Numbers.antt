-- Index numbers: what index prices come to on the day of issue, and on a coupon date. Coupon dates are known by their places before
-- maturity, as in `schedule/specs/Terms.antt`; index numbers are in hundred-thousandths.
use Rattle.std.specs.Prelude.{ℕ, ◌+◌, ◌-◌, ◌*◌, min, Bool, List, get_or}
use Rattle.linkers.specs.declared.Linker.{Linker}
use Rattle.numbers.specs.Rounding.{nearest}
use Rattle.calendar.specs.Months.{month_days}
use Rattle.calendar.specs.Dates.{month_number, day_number}
use Rattle.schedule.specs.Terms.{coupon_month, due_after}

-- "index prices in ten-thousandths, one a month from January 2000": that of month i
abbrev pub price_of : List ℕ → ℕ → ℕ
price_of prices i = get_or prices i 0

-- "only dates after issue bear coupons"
abbrev pub bears_coupon : Linker → ℕ → Bool
bears_coupon l j = due_after l.terms (day_number l.issue) j

-- "For a coupon (or issue) on day d of a month of n days, the index number is the price of three months before plus (d − 1) / n × (the
-- price of two months before less that of three), nearest at five decimals": the whole of it over n, rounded once, of a month that has
-- both prices (`priced`)
unfoldable pub index_number : List ℕ → ℕ → ℕ → ℕ
index_number prices month day =
    nearest (10 * (price_of prices (month - 3) * (month_days month - (day - 1)) + price_of prices (month - 2) * (day - 1))) (month_days month)

-- the issue's
abbrev pub issue_number : Linker → List ℕ → ℕ
issue_number l prices = index_number prices (month_number l.issue) l.issue.day

-- the day of date j in its month: maturity's, or "the month's last day where the day is missing"
abbrev pub coupon_date_day : Linker → ℕ → ℕ
coupon_date_day l j = min l.terms.maturity.day (month_days (coupon_month l.terms j))

-- date j's
unfoldable pub coupon_number : Linker → List ℕ → ℕ → ℕ
coupon_number l prices j = index_number prices (coupon_month l.terms j) (coupon_date_day l j)
