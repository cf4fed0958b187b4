-- Laws of the months: how long they are, where they begin, and the test that a table of first days keeps the calendar's rule.
-- Assumes nothing.
use Rattle.std.specs.Prelude.{if◌then◌else◌}
use Prim.Native.Nat.{ℕ, zero, suc, ◌+◌, ◌-◌, ◌*◌, ◌/◌, ◌%◌, ◌≤◌, ◌<◌, min}
use mathlib.Core.Bool.{Bool, true, false, ◌||◌}
use mathlib.Core.List.{List, [], ◌∷◌}
use mathlib.Core.Path.{◌≡◌, refl, sym, ap, ◌∙◌}
use native.Mathlib.Nat.{zero-add}
use native.Mathlib.Numerals.{add-one}
use native.Mathlib.Omega.{arith}
use lib.Dec.{eqb}
use lib.ListN.{get_or}
use Rattle.numbers.specs.Conditions.{In}
use Rattle.numbers.specs.Buffers.{table}
use Rattle.numbers.proofs.Buffers.{table_at}
use Rattle.numbers.proofs.Items.{sum_none, sum_next, total_grows, total_bound}
use Rattle.calendar.specs.Months.{leap, days_in, month_days, first_day, first_days}
use Rattle.calendar.specs.Dates.{day_in}

-- ---- lengths

-- a test decides between two lengths
by_length : (t : Bool) (a b : ℕ) → In 28 31 a → In 28 31 b → In 28 31 (if t then a else b)
by_length true a b first second = first
by_length false a b first second = second

-- every month has 28 to 31 days
month_long : (year month : ℕ) → In 28 31 (days_in year month)
unfolding days_in
month_long year month =
    by_length (eqb month 2) (if leap year then 29 else 28)
    (if eqb month 4 || (eqb month 6 || (eqb month 9 || eqb month 11)) then 30 else 31)
    (by_length (leap year) 29 28 (omega arith, omega arith) (omega arith, omega arith))
    (by_length (eqb month 4 || (eqb month 6 || (eqb month 9 || eqb month 11))) 30 31 (omega arith, omega arith) (omega arith, omega arith))

-- so has month i
pub month_length : (i : ℕ) → In 28 31 (month_days i)
month_length i = month_long (2000 + i / 12) (i % 12 + 1)

pub has_days : (i days : ℕ) → days ≡ month_days i → 1 ≤ days
has_days i days is = omega (arith, (month_length i).0)

-- ---- first days

-- the first month begins on day 0
pub first_start : first_day 0 ≡ 0
unfolding first_day
first_start = sum_none ◌+◌ 0 month_days

-- the next month begins where this one ends
pub first_next : (i : ℕ) → first_day (i + 1) ≡ first_day i + month_days i
unfolding first_day
first_next i = sum_next ◌+◌ 0 month_days i

module _ (i next this : ℕ) (is : next ≡ first_day (i + 1)) (so : this ≡ first_day i) where
  -- a month's length, by where it and the next one begin
  pub next_no_earlier : this ≤ next
  next_no_earlier = omega (arith, first_next i)

  pub month_between : next - this ≡ month_days i
  month_between = omega (arith, first_next i)

-- a later month begins no earlier than the next
pub first_later : (i j : ℕ) → i < j → first_day i + month_days i ≤ first_day j
unfolding first_day
first_later i j low = rw (← first_next i) (total_grows month_days (i + 1) j (omega arith))

-- a bound that sixteen bits hold
pub first_bound : (i : ℕ) → first_day i ≤ i * 31
unfolding first_day
first_bound i = total_bound month_days 31 i (λ j low. (month_length j).1)

-- the last month
pub last_month : month_days 1199 ≡ 31
unfolding days_in leap
last_month = refl

-- ---- days in months

module _ (i day : ℕ) where
  -- a day of a month lies in it
  pub day_in_month : first_day i ≤ day_in i day × day_in i day < first_day i + month_days i
  unfolding day_in
  day_in_month = (omega arith, omega (arith, (month_length i).0))

  -- a day that the month has
  pub day_in_has : day ≤ month_days i → day_in i day ≡ first_day i + (day - 1)
  unfolding day_in
  day_in_has low = omega arith

  -- sixteen bits hold it
  pub day_in_bound : i < 1200 → day_in i day < 65536
  day_in_bound low = omega (arith, first_bound i, day_in_month.1, (month_length i).1)

-- the way to it, by where the month begins, how long it is, and which of its days that is
pub day_of : (i day first days held : ℕ) → i < 1200 → first ≡ first_day i → days ≡ month_days i → held ≡ min day days
    → (first + (held - 1) ≡ day_in i day) × (first + (held - 1) < 65536)
unfolding day_in
day_of i day first days held low is so that =
    let e : first + (held - 1) ≡ day_in i day = rw (that, is, so) refl in (e, omega (arith, day_in_bound i day low))

-- days of an earlier month lie before those of a later one
pub days_apart : (i j a b : ℕ) → i < j → day_in i a < day_in j b
days_apart i j a b low = omega (arith, first_later i j low, (day_in_month i a).1, (day_in_month j b).0)

-- ---- the table's rule

-- the first days of the n months from i on, where month i begins on day d, each worked out from the one before: what the table is
-- compared with, entry by entry
abbrev pub walk : ℕ → ℕ → ℕ → List ℕ
walk i d zero = []
walk i d (suc n) = d ∷ walk (suc i) (d + month_days i) n

walk_from : (n i d : ℕ) → d ≡ first_day i → walk i d n ≡ table first_day n i
unfolding table
walk_from zero i d is = refl
walk_from (suc n) i d is =
    let on : d + month_days i ≡ first_day (suc i) = ap (λ (o : ℕ). o + month_days i) is ∙ (sym (first_next i) ∙ ap first_day (add-one i)) in
    ap (λ (x : ℕ). x ∷ walk (suc i) (d + month_days i) n) is ∙ ap (λ (xs : List ℕ). first_day i ∷ xs) (walk_from n (suc i) (d + month_days i) on)

-- a table that is walked so has the first day of each of its months
pub rule : (n : ℕ) → walk 0 0 n ≡ table first_day n 0
rule n = walk_from n 0 0 (sym first_start)

-- ---- the table as it is lent

module _ (held : List ℕ) (is : held ≡ first_days) (i : ℕ) (low : i < 1200) where
  -- its first day
  pub month_entry : get_or held i 0 ≡ first_day i
  month_entry = ap (λ (xs : List ℕ). get_or xs i 0) is ∙ (table_at first_day 1200 0 i 0 low ∙ ap first_day (zero-add i))

  -- which sixteen bits hold
  pub entry_bound : get_or held i 0 < 65536
  entry_bound = omega (arith, month_entry, first_bound i)
