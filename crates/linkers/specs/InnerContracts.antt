-- Contracts between functions: what the code's bonds are, and what its functions leave to each other. No definition or statement of
-- another file here needs it.
use Rattle.std.specs.Prelude.{ℕ, ◌*◌, ◌≤◌, ◌<◌, List, ◌≡◌, Bool, length, Result, MatchResult, MatchBool, if◌then◌else◌}
use Rattle.calendar.specs.declared.Date.{Date}
use Rattle.schedule.specs.declared.dates.Bond.{Bond}
use Rattle.linkers.specs.declared.Linker.{Linker}
use Rattle.linkers.specs.declared.indexed.Indexed.{Indexed}
use Rattle.numbers.specs.declared.error.Refusal.{Refusal}
use Rattle.numbers.specs.declared.error.Refusal.TheVariants.{IndexedCoupon}
use Rattle.numbers.specs.Findings.{Finding, Passed, Refused, number_of, item_of}
use Rattle.numbers.specs.Items.{and_then}
use Rattle.calendar.specs.Dates.{day_number}
use Rattle.schedule.specs.Check.{in_form}
use Rattle.schedule.specs.InnerContracts.{terms_of, DueBelow, countdown}
use Rattle.linkers.specs.Coefficients.{over, multiplied}
use Rattle.linkers.specs.Check.{check_linker_dates, dates_before_indexing, check_prices, check_months, check_coupons}
use Rattle.linkers.specs.Drawn.{indexed_dates, flows_in}

-- ---- bonds

-- the inflation bond that is issued on a bond's date
abbrev pub linker_with : Bond → Bool → Linker
linker_with issued italia = record { terms = terms_of issued; issue = issued.date; btp_italia = italia }

-- and the one that has prices too
abbrev pub linker_of : Indexed → Linker
linker_of b = linker_with b.issued b.btp_italia

-- refusals 25 and 26, and 27 for frequency and rate
abbrev pub check_issued : Linker → Date → Finding
check_issued l evaluation = and_then (check_linker_dates l evaluation) (if in_form l.terms then Passed else Refused 27 0)

-- the bond of these terms, seen from issue, or their refusal
abbrev pub Issued : Linker → Date → Result Bond Refusal → Type 0
Issued l evaluation r =
    MatchResult r
    (λ b. (check_linker_dates l evaluation ≡ Passed) × (terms_of b ≡ l.terms) × (b.date ≡ l.issue))
    (λ e. check_issued l evaluation ≡ Refused (number_of e) (item_of e))

-- refusals 28 and 29
abbrev pub check_index : Linker → List ℕ → Finding
check_index l prices = and_then (check_prices prices) (check_months l prices)

-- the same bond with these prices, or their refusal
abbrev pub WithPrices : Bond → Bool → List ℕ → Result Indexed Refusal → Type 0
WithPrices issued italia prices r =
    MatchResult r
    (λ b. (linker_of b ≡ linker_with issued italia) × (b.prices.now ≡ prices))
    (λ e. check_index (linker_with issued italia) prices ≡ Refused (number_of e) (item_of e))

-- ---- coupons and flows

-- a coupon by the coefficient of a number over another, or refusal 30
abbrev pub CouponOf : ℕ → ℕ → ℕ → Result ℕ Refusal → Type 0
CouponOf coupon number by r =
    MatchResult r
    (λ n. (n ≡ multiplied coupon (over number by)) × (n ≤ 10000000))
    (λ e. (e ≡ IndexedCoupon) × (10000000 < multiplied coupon (over number by)))

-- so many flows before indexing, and room for them
pub record CountedBefore (l : Linker) (evaluation : Date) (count room : ℕ) : Type 0 where
  pub dates : dates_before_indexing l evaluation ≡ countdown count
  pub most : count ≤ 120
  pub fits : 8 * count ≤ room

-- the dates that bear a coupon are those of the places below that number, or it is the number of flows before indexing
abbrev pub DatesOver : Linker → ℕ → ℕ → Type 0
DatesOver l count dates = MatchBool l.btp_italia (DueBelow l.terms (day_number l.issue) dates) (dates ≡ count)

-- all flows, no more than before indexing, or refusal 30
abbrev pub FlowsPut : Linker → Date → List ℕ → ℕ → List ℕ → Result ℕ Refusal → List ℕ → Type 0
FlowsPut l evaluation prices count old r new =
    MatchResult r
    (λ n. (check_coupons l evaluation prices ≡ Passed) × (n ≡ length (indexed_dates l evaluation prices)) × (n ≤ count) × (new ≡ flows_in l evaluation prices n old))
    (λ e. (e ≡ IndexedCoupon) × (check_coupons l evaluation prices ≡ Refused 30 0))
