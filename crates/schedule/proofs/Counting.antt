-- How many dates and flows there are: what the code's functions cite, with what they were handed as plain numbers.
-- Assumes nothing.
use Prim.Native.Nat.{ℕ, ◌+◌, ◌-◌, ◌*◌, ◌/◌, ◌≤◌, ◌<◌}
use mathlib.Core.Bool.{true}
use mathlib.Core.Logic.{⊎_elim}
use mathlib.Core.Path.{◌≡◌, refl, ◌∙◌}
use native.Mathlib.Nat.{le_refl}
use native.Mathlib.Omega.{arith}
use borrow.Author.Tests.{lt-ltb, le-ltb, ne_eqb}
use lib.Dec.{eqb, ltb}
use lib.ListN.{get_or}
use Rattle.calendar.specs.declared.Date.{Date}
use Rattle.calendar.specs.Dates.{month_number, day_number, day_in}
use Rattle.numbers.proofs.Items.{by_test, both, and_false}
use Rattle.numbers.proofs.Rounding.{nearest_zero, nearest_below}
use Rattle.numbers.specs.Rounding.{nearest}
use Rattle.schedule.specs.declared.Terms.{Terms}
use Rattle.schedule.specs.Terms.{months_apart, coupon_day, due_after, coupon, principal}
use Rattle.schedule.specs.Check.{in_form}
use Rattle.schedule.specs.Drawn.{amount_of, dates_of}
use Rattle.schedule.specs.InnerContracts.{Dated, DueBelow, countdown, Counted}
use Rattle.schedule.proofs.CouponDates.{once_or_twice, in_order, due_0, one_more_lem, no_more}
use Rattle.schedule.proofs.FlowDates.{countdown_at, flows_below, flows_count}

-- ---- dates after a date

module _ (t : Terms) (date : Date) (d : Dated t date) (last first : ℕ) (l : last ≡ month_number t.maturity) (f : first ≡ month_number date) where
  pub months_between : first ≤ last
  months_between = omega (arith, in_order t date d)

  module _ (whole apart : ℕ) (w : whole ≡ (last - first) / months_apart t) (a : apart ≡ months_apart t) where
    whole_is : whole ≡ (month_number t.maturity - month_number date) / months_apart t
    whole_is = w ∙ rw (l, f) refl

    module _ (after day : ℕ) (so : after ≡ day_number date) (is : day ≡ day_in (last - whole * apart) t.maturity.day) where
      day_is : day ≡ coupon_day t whole
      unfolding coupon_day
      day_is = is ∙ rw (l, a) refl

      pub last_due : after < day → DueBelow t (day_number date) (whole + 1)
      last_due low = one_more_lem t date d whole whole_is (omega (arith, day_is))

      pub last_past : day ≤ after → DueBelow t (day_number date) whole
      last_past high = no_more t date d whole whole_is (omega (arith, day_is))

-- ---- coupons and amounts

pub coupon_once : (rate : ℕ) → rate ≡ nearest rate 1
unfolding nearest
coupon_once rate = omega arith

pub coupon_twice : (rate : ℕ) → (rate + 1) / 2 ≡ nearest rate 2
unfolding nearest
coupon_twice rate = omega arith

module _ (t : Terms) where
  -- a coupon is 0 just where the rate is
  pub coupon_none : t.rate ≡ 0 → coupon t ≡ 0
  unfolding coupon
  coupon_none e = rw e (nearest_zero t.frequency)

  pub coupon_some : in_form t ≡ true → (t.rate ≡ 0 → ⊥) → 1 ≤ coupon t
  unfolding coupon
  coupon_some formed some =
      ⊎_elim (λ e. rw e (omega (arith, coupon_once t.rate))) (λ e. rw e (omega (arith, coupon_twice t.rate))) (once_or_twice t formed)

  pub coupon_most : in_form t ≡ true → coupon t ≤ t.rate
  unfolding coupon
  coupon_most formed =
      nearest_below t.rate t.frequency (⊎_elim (λ e. omega arith) (λ e. omega arith) (once_or_twice t formed))

pub principal_last : principal 0 ≡ 1000000
unfolding principal
principal_last = refl

pub principal_before : (j : ℕ) → (j ≡ 0 → ⊥) → principal j ≡ 0
unfolding principal
principal_before j some = rw (ne_eqb j 0 some) refl

pub principal_most : (j : ℕ) → principal j ≤ 1000000
unfolding principal
principal_most j = by_test (eqb j 0) (λ t. rw t (le_refl 1000000)) (λ f. rw f (omega arith))

-- ---- flows

module _ (t : Terms) (evaluation : Date) (d : Dated t evaluation) where
  -- without coupons there is one, at maturity
  pub zero_flows : t.rate ≡ 0 → dates_of t evaluation ≡ countdown 1
  zero_flows none =
      flows_below (due_after t (day_number evaluation)) (amount_of t) 1 (omega arith)
      (λ j low.
      let first : 0 ≡ j = omega arith in
      rw (← first) (rw (due_0 t evaluation d) (lt-ltb 0 (coupon t + principal 0) (omega (arith, principal_last)))))
      (λ j high.
      rw (le-ltb 0 (coupon t + principal j) (omega (arith, coupon_none t none, principal_before j (omega arith)))) (and_false (due_after t (day_number evaluation) j)))

  -- with coupons each date after evaluation has one
  pub all_flows : (t.rate ≡ 0 → ⊥) → (n : ℕ) → DueBelow t (day_number evaluation) n → dates_of t evaluation ≡ countdown n
  all_flows some n below =
      flows_below (due_after t (day_number evaluation)) (amount_of t) n (omega (arith, below.most))
      (λ j low. rw (below.due j, lt-ltb j n low) (lt-ltb 0 (coupon t + principal j) (omega (arith, coupon_some t d.formed some))))
      (λ j high. rw (below.due j, le-ltb j n high) refl)

-- the dates of so many flows are due, and pay something
module _ (t : Terms) (evaluation : Date) (count room : ℕ) (known : Counted t evaluation count room) where
  pub counted_at : (r : ℕ) → r < count → get_or (dates_of t evaluation) r 0 ≡ count - 1 - r
  counted_at r low = rw known.dates (countdown_at count r low)

  pub counted_due : (j : ℕ) → j < count → due_after t (day_number evaluation) j ≡ true
  counted_due j low =
      (both (due_after t (day_number evaluation) j) (ltb 0 (amount_of t j))
      (flows_count (due_after t (day_number evaluation)) (amount_of t) count known.dates j low)).0
