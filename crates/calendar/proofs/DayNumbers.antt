-- Laws of dates: their months, their day numbers, and that these count the dates in their order, one after the other.
-- Assumes nothing.
use Prim.Native.Nat.{ℕ, ◌+◌, ◌-◌, ◌*◌, ◌/◌, ◌%◌, ◌≤◌, ◌<◌}
use mathlib.Core.Bool.{true, false}
use mathlib.Core.Logic.{⊎_elim}
use mathlib.Core.Path.{◌≡◌, refl, sym, ap, ◌∙◌}
use native.Mathlib.Nat.{le_of_lt}
use native.Mathlib.Omega.{arith}
use borrow.Author.Tests.{eqb-true, eqb-false, ltb-true, ltb-false, lt-ltb, le-ltb}
use lib.Dec.{eqb, ltb}
use Rattle.calendar.specs.declared.Date.{Date}
use Rattle.numbers.specs.Conditions.{within, In}
use Rattle.numbers.proofs.Items.{by_test, both, either, neither, other_fails, in_range_lem, true_not_false}
use Rattle.calendar.specs.Months.{days_in, month_days, first_day}
use Rattle.calendar.specs.Dates.{in_calendar, month_number, day_number, day_in, earlier, OrderKept, day_after, DaysCounted}
use Rattle.calendar.specs.InnerContracts.{in_months}
use Rattle.calendar.proofs.FirstDays.{first_start, first_next, day_in_has, days_apart}

module _ (d : Date) where
  -- year and month of a date whose month is one of the 1,200
  pub months_in : in_months d ≡ true → In 2000 2099 d.year × In 1 12 d.month
  months_in t =
      let parts = both (within 2000 2099 d.year) (within 1 12 d.month) t in
      (in_range_lem 2000 2099 d.year parts.0, in_range_lem 1 12 d.month parts.1)

  -- its number
  pub month_bound : in_months d ≡ true → month_number d < 1200
  unfolding month_number
  month_bound t = let parts = months_in t in omega (arith, parts.0.0, parts.0.1, parts.1.0, parts.1.1)

  -- the month of that number is the date's
  pub month_back : in_months d ≡ true → month_days (month_number d) ≡ days_in d.year d.month
  unfolding month_number
  month_back t =
      let parts = months_in t in
      let year : 2000 + (12 * (d.year - 2000) + (d.month - 1)) / 12 ≡ d.year = omega (arith, parts.0.0, parts.1.0, parts.1.1) in
      let month : (12 * (d.year - 2000) + (d.month - 1)) % 12 + 1 ≡ d.month = omega (arith, parts.1.0, parts.1.1) in
      rw (year, month) refl

  -- a date of the calendar, by its month and its day
  pub calendar_months : in_months d ≡ true → in_calendar d ≡ within 1 (month_days (month_number d)) d.day
  unfolding in_calendar
  calendar_months t =
      let parts = both (within 2000 2099 d.year) (within 1 12 d.month) t in
      simp (parts.0, parts.1, month_back t)

  -- what a date of the calendar has: its month, and its day in it
  pub calendar_in : in_calendar d ≡ true → (in_months d ≡ true) × In 1 (month_days (month_number d)) d.day
  unfolding in_calendar
  calendar_in t =
      let years = both (within 2000 2099 d.year) _ t in
      let months = both (within 1 12 d.month) (within 1 (days_in d.year d.month) d.day) years.1 in
      let one : in_months d ≡ true = simp (years.0, months.0) in
      let days = in_range_lem 1 (days_in d.year d.month) d.day months.1 in
      (one, (days.0, rw (month_back one) days.1))

  -- what it is not without a month
  pub calendar_not : in_months d ≡ false → in_calendar d ≡ false
  calendar_not f = by_test (in_calendar d) (λ t. absurd (true_not_false (sym (calendar_in t).0 ∙ f))) (λ t. t)

  -- a date's day number is that of its day in its month
  pub day_number_in : in_calendar d ≡ true → day_in (month_number d) d.day ≡ day_number d
  unfolding day_number
  day_number_in t = day_in_has (month_number d) d.day (calendar_in t).1.1

-- ---- the order of dates

module _ (a b : Date) (known : in_calendar a ≡ true) (known' : in_calendar b ≡ true) where
  mine : In 2000 2099 a.year × In 1 12 a.month
  mine = months_in a (calendar_in a known).0

  other : In 2000 2099 b.year × In 1 12 b.month
  other = months_in b (calendar_in b known').0

  -- an earlier month
  month_before : month_number a < month_number b → day_number a < day_number b
  month_before low = rw (← day_number_in a known, ← day_number_in b known') (days_apart (month_number a) (month_number b) a.day b.day low)

  year_before : a.year < b.year → day_number a < day_number b
  unfolding month_number
  year_before low = month_before (omega (arith, mine.0.0, mine.1.1, other.1.0))

  month_of_year_before : a.year ≡ b.year → a.month < b.month → day_number a < day_number b
  unfolding month_number
  month_of_year_before same low = month_before (omega (arith, mine.1.0))

  -- the same month, and a day that is earlier or not
  same_month : a.year ≡ b.year → a.month ≡ b.month → first_day (month_number a) ≡ first_day (month_number b)
  unfolding month_number
  same_month year month = rw (year, month) refl

  day_before : a.year ≡ b.year → a.month ≡ b.month → a.day < b.day → day_number a < day_number b
  unfolding day_number
  day_before year month low = omega (arith, same_month year month, (calendar_in a known).1.0)

  day_not_after : a.year ≡ b.year → a.month ≡ b.month → a.day ≤ b.day → day_number a ≤ day_number b
  unfolding day_number
  day_not_after year month low = omega (arith, same_month year month)

  -- an earlier date has a smaller number
  pub earlier_day : earlier a b ≡ true → day_number a < day_number b
  earlier_day t =
      ⊎_elim
      (λ year. year_before (ltb-true a.year b.year year))
      (λ rest.
      let year = both (eqb a.year b.year) _ rest in
      ⊎_elim
      (λ month. month_of_year_before (eqb-true a.year b.year year.0) (ltb-true a.month b.month month))
      (λ last.
      let month = both (eqb a.month b.month) (ltb a.day b.day) last in
      day_before (eqb-true a.year b.year year.0) (eqb-true a.month b.month month.0) (ltb-true a.day b.day month.1))
      (either (ltb a.month b.month) _ year.1))
      (either (ltb a.year b.year) _ t)

-- a date that is not earlier has no smaller number
pub not_earlier_day : (a b : Date) → in_calendar a ≡ true → in_calendar b ≡ true → earlier a b ≡ false → day_number b ≤ day_number a
not_earlier_day a b known known' f =
    let years = neither (ltb a.year b.year) _ f in
    by_test (eqb a.year b.year)
    (λ t.
    let year : b.year ≡ a.year = sym (eqb-true a.year b.year t) in
    let months = neither (ltb a.month b.month) _ (other_fails (eqb a.year b.year) _ years.1 t) in
    by_test (eqb a.month b.month)
    (λ u. day_not_after b a known' known year (sym (eqb-true a.month b.month u))
    (ltb-false a.day b.day (other_fails (eqb a.month b.month) _ months.1 u)))
    (λ u. le_of_lt (month_of_year_before b a known' known year (omega (arith, eqb-false a.month b.month u, ltb-false a.month b.month months.0)))))
    (λ t. le_of_lt (year_before b a known' known (omega (arith, eqb-false a.year b.year t, ltb-false a.year b.year years.0))))

order_kept : OrderKept
order_kept a b known known' =
    by_test (earlier a b)
    (λ t. lt-ltb (day_number a) (day_number b) (earlier_day a b known known' t) ∙ sym t)
    (λ f. le-ltb (day_number a) (day_number b) (not_earlier_day a b known known' f) ∙ sym f)

-- a date that is no later lies in a month that is no later
pub months_in_order : (a b : Date) → in_calendar a ≡ true → in_calendar b ≡ true → day_number a < day_number b → month_number a ≤ month_number b
months_in_order a b known known' low =
    by_test (ltb (month_number b) (month_number a))
    (λ t. absurd (omega (arith, low, month_before b a known' known (ltb-true (month_number b) (month_number a) t))))
    (λ f. ltb-false (month_number b) (month_number a) f)

-- ---- one day after the other

-- the month after it begins where a month ends
next_month : (d : Date) → in_calendar d ≡ true → days_in d.year d.month ≤ d.day → (i : ℕ) → i ≡ month_number d + 1 → first_day i ≡ day_number d + 1
unfolding day_number
next_month d known last i is =
    let w = calendar_in d known in
    ap first_day is ∙ omega (arith, first_next (month_number d), w.1.0, w.1.1, month_back d w.0)

next_day : (d : Date) → in_calendar d ≡ true → day_number (day_after d) ≡ day_number d + 1
unfolding day_number month_number
next_day d known =
    let w = calendar_in d known in
    let parts = months_in d w.0 in
    by_test (ltb d.day (days_in d.year d.month))
    (λ t. rw t (omega (arith, w.1.0)))
    (λ f.
    let last = ltb-false d.day (days_in d.year d.month) f in
    by_test (ltb d.month 12)
    (λ t. rw (f, t) (omega (arith, next_month d known last (12 * (d.year - 2000) + (d.month + 1 - 1)) (omega (arith, parts.1.0)))))
    (λ g. rw (f, g)
    (omega (arith, next_month d known last (12 * (d.year + 1 - 2000) + (1 - 1)) (omega (arith, parts.0.0, parts.1.1, ltb-false d.month 12 g))))))

pub days_counted : DaysCounted
unfolding day_number month_number
days_counted = record { first = omega (arith, first_start); next = next_day; order = order_kept }
