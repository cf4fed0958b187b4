-- The months from January 2000 to December 2099, by number: month 0 is January 2000, month 1,199 December 2099.
use Rattle.std.specs.Prelude.{ℕ, ◌+◌, ◌/◌, ◌%◌, Bool, ◌&&◌, ◌||◌, not, List, eqb, if◌then◌else◌}
use Rattle.numbers.specs.Items.{total}
use Rattle.numbers.specs.Buffers.{table}

-- "its rule is the Gregorian calendar": a leap year is a fourth year, a hundredth only where it is a four-hundredth
unfoldable pub leap : ℕ → Bool
leap year = eqb (year % 4) 0 && (not (eqb (year % 100) 0) || eqb (year % 400) 0)

-- how many days a month, 1 to 12, of a year has
unfoldable pub days_in : ℕ → ℕ → ℕ
days_in year month =
    if eqb month 2
    then (if leap year then 29 else 28)
    else (if eqb month 4 || (eqb month 6 || (eqb month 9 || eqb month 11)) then 30 else 31)

-- how many days month i has
abbrev pub month_days : ℕ → ℕ
month_days i = days_in (2000 + i / 12) (i % 12 + 1)

-- the first day of month i: the days of all months before. Day 0 is 1 January 2000
unfoldable pub first_day : ℕ → ℕ
first_day i = total month_days i

-- "the first day numbers of the 1,200 months stand in one table"
abbrev pub first_days : List ℕ
first_days = table first_day 1200 0
