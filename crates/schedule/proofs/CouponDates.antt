-- Laws of coupon dates: which lie after a date, and that they rise.
-- Assumes nothing.
use Prim.Native.Nat.{ℕ, suc, ◌+◌, ◌-◌, ◌*◌, ◌/◌, ◌≤◌, ◌<◌}
use mathlib.Core.Bool.{true, false, ◌||◌}
use mathlib.Core.Logic.{◌⊎◌, inl, inr, ⊎_elim}
use mathlib.Core.Path.{◌≡◌, refl, sym, ap, ◌∙◌}
use native.Mathlib.Nat.{le_refl, le_of_lt, mul-le-mul_left, mul-le-mul_right, div-mul-le_self, lt-div-mul-add, suc-mul}
use native.Mathlib.Omega.{arith}
use borrow.Author.Tests.{eqb-true, eqb-false, leb-true, leb-false, ltb-true, ltb-false, le-leb, lt-leb, lt-ltb, le-ltb}
use lib.Dec.{eqb, leb, ltb}
use Rattle.calendar.specs.declared.Date.{Date}
use Rattle.calendar.specs.Dates.{in_calendar, month_number, day_number, day_in}
use Rattle.calendar.proofs.FirstDays.{day_in_bound, days_apart}
use Rattle.calendar.proofs.DayNumbers.{month_bound, calendar_in, day_number_in, months_in_order}
use Rattle.numbers.proofs.Items.{by_test, both, either}
use Rattle.schedule.specs.declared.Terms.{Terms}
use Rattle.schedule.specs.Terms.{months_apart, months_back, coupon_day, due_after}
use Rattle.schedule.specs.Check.{in_form}
use Rattle.schedule.specs.InnerContracts.{Dated, DueBelow}

-- ---- frequency

module _ (t : Terms) (formed : in_form t ≡ true) where
  -- once or twice a year
  pub once_or_twice : (t.frequency ≡ 1) ⊎ (t.frequency ≡ 2)
  once_or_twice =
      let parts = both (eqb t.frequency 1 || eqb t.frequency 2) (leb t.rate 1000000) formed in
      ⊎_elim (λ e. inl (eqb-true t.frequency 1 e)) (λ e. inr (eqb-true t.frequency 2 e)) (either (eqb t.frequency 1) (eqb t.frequency 2) parts.0)

  pub rate_most : t.rate ≤ 1000000
  rate_most = leb-true t.rate 1000000 (both (eqb t.frequency 1 || eqb t.frequency 2) (leb t.rate 1000000) formed).1

  pub twice : (t.frequency ≡ 1 → ⊥) → t.frequency ≡ 2
  twice not-once = ⊎_elim (λ e. absurd (not-once e)) (λ e. e) once_or_twice

  -- six months apart or twelve
  pub apart_least : 6 ≤ months_apart t
  apart_least = ⊎_elim (λ e. rw e (omega arith)) (λ e. rw e (omega arith)) once_or_twice

-- ---- dates that are due

-- what a date that is due is
pub due_parts : (t : Terms) (after j : ℕ) → due_after t after j ≡ true → (months_back t j ≤ month_number t.maturity) × (after < coupon_day t j)
unfolding due_after
due_parts t after j d =
    let parts = both (leb (months_back t j) (month_number t.maturity)) (ltb after (coupon_day t j)) d in
    (leb-true (months_back t j) (month_number t.maturity) parts.0, ltb-true after (coupon_day t j) parts.1)

pub due_is : (t : Terms) (after j : ℕ) → months_back t j ≤ month_number t.maturity → due_after t after j ≡ ltb after (coupon_day t j)
unfolding due_after
due_is t after j low = rw (le-leb (months_back t j) (month_number t.maturity) low) refl

pub not_due : (t : Terms) (after j : ℕ) → month_number t.maturity < months_back t j → due_after t after j ≡ false
unfolding due_after
not_due t after j high = rw (lt-leb (months_back t j) (month_number t.maturity) high) refl

-- a date of a place further back is earlier
pub dates_fall : (t : Terms) → in_form t ≡ true → (i j : ℕ) → i < j → months_back t j ≤ month_number t.maturity → coupon_day t j < coupon_day t i
unfolding coupon_day
dates_fall t formed i j low back =
    let further : suc i * months_apart t ≤ j * months_apart t = mul-le-mul_right (months_apart t) low in
    days_apart (month_number t.maturity - months_back t j) (month_number t.maturity - months_back t i) t.maturity.day t.maturity.day
    (omega (arith, apart_least t formed, further, suc-mul i (months_apart t)))

-- a date that is due lies fewer than 1,200 places back
pub due_near : (t : Terms) (after j : ℕ) → in_form t ≡ true → in_calendar t.maturity ≡ true → due_after t after j ≡ true → j < 1200
due_near t after j formed known d =
    let back = (due_parts t after j d).0 in
    let months : j * 6 ≤ months_back t j = mul-le-mul_left j (apart_least t formed) in
    omega (arith, month_bound t.maturity (calendar_in t.maturity known).0)

-- sixteen bits hold its day
pub coupon_bound : (t : Terms) (j : ℕ) → in_calendar t.maturity ≡ true → coupon_day t j < 65536
unfolding coupon_day
coupon_bound t j known =
    day_in_bound (month_number t.maturity - months_back t j) t.maturity.day (omega (arith, month_bound t.maturity (calendar_in t.maturity known).0))

-- the date of place 0 is maturity
pub date_0 : (t : Terms) → in_calendar t.maturity ≡ true → coupon_day t 0 ≡ day_number t.maturity
unfolding coupon_day
date_0 t known =
    let here : month_number t.maturity - months_back t 0 ≡ month_number t.maturity = omega arith in
    ap (λ (i : ℕ). day_in i t.maturity.day) here ∙ day_number_in t.maturity known

-- ---- how many lie after a date

module _ (t : Terms) (date : Date) (d : Dated t date) where
  -- the date's month is no later than maturity's
  pub in_order : month_number date ≤ month_number t.maturity
  in_order = months_in_order date t.maturity d.known d.matures d.before

  pub maturity_month : month_number t.maturity < 1200
  maturity_month = month_bound t.maturity (calendar_in t.maturity d.matures).0

  -- a date of a later month is due
  due_later : (j : ℕ) → months_back t j + month_number date < month_number t.maturity → due_after t (day_number date) j ≡ true
  unfolding coupon_day
  due_later j low =
      due_is t (day_number date) j (omega arith)
      ∙ lt-ltb (day_number date) (coupon_day t j)
      (rw (← day_number_in date d.known)
      (days_apart (month_number date) (month_number t.maturity - months_back t j) date.day t.maturity.day (omega arith)))

  -- a date of an earlier month is not
  pub due_earlier : (j : ℕ) → month_number t.maturity < months_back t j + month_number date → due_after t (day_number date) j ≡ false
  unfolding coupon_day
  due_earlier j high =
      by_test (leb (months_back t j) (month_number t.maturity))
      (λ has.
      let back = leb-true (months_back t j) (month_number t.maturity) has in
      due_is t (day_number date) j back
      ∙ le-ltb (day_number date) (coupon_day t j)
      (le_of_lt
      (rw (← day_number_in date d.known)
      (days_apart (month_number t.maturity - months_back t j) (month_number date) t.maturity.day date.day (omega (arith, back))))))
      (λ none. not_due t (day_number date) j (leb-false (months_back t j) (month_number t.maturity) none))

  -- maturity is due
  pub due_0 : due_after t (day_number date) 0 ≡ true
  due_0 =
      due_is t (day_number date) 0 (omega arith)
      ∙ lt-ltb (day_number date) (coupon_day t 0) (rw (date_0 t d.matures) d.before)

  module _ (whole : ℕ) (is : whole ≡ (month_number t.maturity - month_number date) / months_apart t) where
    -- so many steps back lie in the date's month or a later one, and one step more does not
    pub whole_reach : months_back t whole ≤ month_number t.maturity - month_number date
    whole_reach = rw is (div-mul-le_self (month_number t.maturity - month_number date) (months_apart t))

    whole_past : month_number t.maturity - month_number date < months_back t whole + months_apart t
    whole_past = rw is (lt-div-mul-add (omega (arith, apart_least t d.formed)))

    pub whole_most : whole ≤ 199
    whole_most =
        let months : whole * 6 ≤ whole * months_apart t = mul-le-mul_left whole (apart_least t d.formed) in
        omega (arith, whole_reach, maturity_month)

    below : (j : ℕ) → j < whole → due_after t (day_number date) j ≡ true
    below j low =
        let further : suc j * months_apart t ≤ whole * months_apart t = mul-le-mul_right (months_apart t) low in
        due_later j (omega (arith, apart_least t d.formed, further, suc-mul j (months_apart t), whole_reach, in_order))

    above : (j : ℕ) → whole < j → due_after t (day_number date) j ≡ false
    above j high =
        let further : suc whole * months_apart t ≤ j * months_apart t = mul-le-mul_right (months_apart t) high in
        due_earlier j (omega (arith, further, suc-mul whole (months_apart t), whole_past, in_order))

    -- so all are known but the one of the date's own month
    all_others : (j : ℕ) → (j ≡ whole → ⊥) → due_after t (day_number date) j ≡ ltb j whole
    all_others j other =
        by_test (ltb j whole)
        (λ low. below j (ltb-true j whole low) ∙ sym low)
        (λ high. above j (omega (arith, ltb-false j whole high, other)) ∙ sym high)

    -- and that one is due where it lies after the date
    due_below : (n : ℕ) → n ≤ whole + 1 → ltb (day_number date) (coupon_day t whole) ≡ ltb whole n → ((j : ℕ) → (j ≡ whole → ⊥) → ltb j whole ≡ ltb j n)
        → DueBelow t (day_number date) n
    due_below n most own others =
        let all : (j : ℕ) → due_after t (day_number date) j ≡ ltb j n = λ j.
        by_test (eqb j whole)
        (λ same.
        let here : whole ≡ j = sym (eqb-true j whole same) in
        rw (← here) (due_is t (day_number date) whole (omega (arith, whole_reach)) ∙ own))
        (λ other. let far = eqb-false j whole other in all_others j far ∙ others j far)
        in
        record { due = all; some = ltb-true 0 n (sym (all 0) ∙ due_0); most = omega (arith, whole_most) }

    pub one_more_lem : day_number date < coupon_day t whole → DueBelow t (day_number date) (whole + 1)
    one_more_lem after =
        due_below (whole + 1) (omega arith) (lt-ltb (day_number date) (coupon_day t whole) after ∙ sym (lt-ltb whole (whole + 1) (omega arith)))
        (λ j far. by_test (ltb j whole)
        (λ low. low ∙ sym (lt-ltb j (whole + 1) (omega (arith, ltb-true j whole low))))
        (λ high. high ∙ sym (le-ltb j (whole + 1) (omega (arith, ltb-false j whole high, far)))))

    pub no_more : coupon_day t whole ≤ day_number date → DueBelow t (day_number date) whole
    no_more before =
        due_below whole (omega arith) (le-ltb (day_number date) (coupon_day t whole) before ∙ sym (le-ltb whole whole (le_refl whole))) (λ j far. refl)
