-- Dates and their day numbers.
use Rattle.std.specs.Prelude.{ℕ, ◌+◌, ◌-◌, ◌*◌, min, Bool, true, ◌&&◌, ◌||◌, ◌≡◌, eqb, ltb, if◌then◌else◌}
use Rattle.calendar.specs.declared.Date.{Date}
use Rattle.numbers.specs.Conditions.{within}
use Rattle.calendar.specs.Months.{days_in, month_days, first_day}

-- "Dates run through 2000..2099": a date (year, month, day) of the calendar
unfoldable pub in_calendar : Date → Bool
in_calendar d = within 2000 2099 d.year && (within 1 12 d.month && within 1 (days_in d.year d.month) d.day)

-- a date's month, counted from January 2000
unfoldable pub month_number : Date → ℕ
month_number d = 12 * (d.year - 2000) + (d.month - 1)

-- a date's day, counted from 1 January 2000
unfoldable pub day_number : Date → ℕ
day_number d = first_day (month_number d) + (d.day - 1)

-- "on the month's last day where the day is missing": that day of month i, or its last one, counted from 1 January 2000
unfoldable pub day_in : ℕ → ℕ → ℕ
day_in i day = first_day i + (min day (month_days i) - 1)

-- ---- what day numbers are: the dates of the calendar in their order, one after the other, from 1 January 2000

-- a is an earlier date than b: by year, then month, then day
abbrev pub earlier : Date → Date → Bool
earlier a b = ltb a.year b.year || (eqb a.year b.year && (ltb a.month b.month || (eqb a.month b.month && ltb a.day b.day)))

-- day numbers keep the order of dates
abbrev pub OrderKept : Type 0
OrderKept = (a b : Date) → in_calendar a ≡ true → in_calendar b ≡ true → ltb (day_number a) (day_number b) ≡ earlier a b

abbrev pub date : ℕ → ℕ → ℕ → Date
date year month day = record { year = year; month = month; day = day }

-- the day after: the next of the month, the first of the next month, or 1 January of the next year
abbrev pub day_after : Date → Date
day_after d =
    if ltb d.day (days_in d.year d.month)
    then date d.year d.month (d.day + 1)
    else (if ltb d.month 12 then date d.year (d.month + 1) 1 else date (d.year + 1) 1 1)

pub record DaysCounted : Type 0 where
  pub first : day_number (date 2000 1 1) ≡ 0
  pub next : (d : Date) → in_calendar d ≡ true → day_number (day_after d) ≡ day_number d + 1
  pub order : OrderKept
