-- A bond's terms: its coupon dates, and what is paid on them. A date is known by how many coupon dates before maturity it lies:
-- date 0 is maturity, date 1 the coupon date before it, and so on.
use Rattle.std.specs.Prelude.{ℕ, ◌+◌, ◌-◌, ◌*◌, ◌/◌, Bool, ◌&&◌, eqb, leb, ltb, if◌then◌else◌}
use Rattle.schedule.specs.declared.Terms.{Terms}
use Rattle.numbers.specs.Rounding.{nearest}
use Rattle.calendar.specs.Dates.{month_number, day_in}

-- "frequency 1 or 2": months from one coupon date to the next
abbrev pub months_apart : Terms → ℕ
months_apart t = 12 / t.frequency

-- "Coupon dates count back from maturity itself": how many months date j lies before maturity
abbrev pub months_back : Terms → ℕ → ℕ
months_back t j = j * months_apart t

-- the month of date j, where there is one (`due_after`)
abbrev pub coupon_month : Terms → ℕ → ℕ
coupon_month t j = month_number t.maturity - months_back t j

-- "on the month's last day where the day is missing": the day number of date j
unfoldable pub coupon_day : Terms → ℕ → ℕ
coupon_day t j = day_in (coupon_month t j) t.maturity.day

-- "only dates after evaluation count": date j is one of the calendar's, not before January 2000, and lies after day `after`
unfoldable pub due_after : Terms → ℕ → ℕ → Bool
due_after t after j = leb (months_back t j) (month_number t.maturity) && ltb after (coupon_day t j)

-- "A coupon is rate / frequency, nearest"
unfoldable pub coupon : Terms → ℕ
coupon t = nearest t.rate t.frequency

-- "the last flow adds 1,000,000"
unfoldable pub principal : ℕ → ℕ
principal j = if eqb j 0 then 1000000 else 0

-- what is paid on date j, where its coupon is `coupons j`
abbrev pub amount_on : (ℕ → ℕ) → ℕ → ℕ
amount_on coupons j = coupons j + principal j
