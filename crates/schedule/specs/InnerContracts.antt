-- Contracts between functions: what the code's frequencies and bonds are, which terms have them, and how the dates with a flow stand.
-- No definition or statement of another file here needs it.
use Rattle.std.specs.Prelude.{ℕ, zero, suc, ◌*◌, ◌≤◌, ◌<◌, true, false, ◌||◌, List, [], ◌∷◌, ◌≡◌, eqb, ltb, Result, MatchResult, if◌then◌else◌}
use Rattle.calendar.specs.declared.Date.{Date}
use Rattle.numbers.specs.declared.error.Refusal.{Refusal}
use Rattle.numbers.specs.declared.error.Refusal.TheVariants.{BondTerms}
use Rattle.schedule.specs.declared.Terms.{Terms}
use Rattle.schedule.specs.declared.coupons.Frequency.{Frequency}
use Rattle.schedule.specs.declared.coupons.Frequency.TheVariants.{Yearly, HalfYearly}
use Rattle.schedule.specs.declared.dates.Bond.{Bond}
use Rattle.numbers.specs.Findings.{Finding, Passed, Refused, number_of, item_of}
use Rattle.numbers.specs.Items.{and_then}
use Rattle.calendar.specs.Dates.{in_calendar, day_number}
use Rattle.schedule.specs.Terms.{due_after}
use Rattle.schedule.specs.Check.{check_dates, in_form}
use Rattle.schedule.specs.Drawn.{dates_of}

-- ---- frequencies

-- "Where an answer is an enum, a definition gives this paper's number and values for each of the enum's cases.": "frequency 1 or 2",
-- the coupons a year
abbrev pub coupons_a_year : Frequency → ℕ
coupons_a_year Yearly = 1
coupons_a_year HalfYearly = 2

-- the frequency of so many coupons a year, or refusal 27 where there is none
abbrev pub FrequencyOf : ℕ → Result Frequency Refusal → Type 0
FrequencyOf n r = MatchResult r (λ f. coupons_a_year f ≡ n) (λ e. (e ≡ BondTerms) × (eqb n 1 || eqb n 2 ≡ false))

-- the frequency of terms in form, or refusal 27 of others
abbrev pub Formed : Terms → Result Frequency Refusal → Type 0
Formed t r = MatchResult r (λ f. (in_form t ≡ true) × (coupons_a_year f ≡ t.frequency)) (λ e. (e ≡ BondTerms) × (in_form t ≡ false))

-- ---- bonds

-- a bond's terms
abbrev pub terms_of : Bond → Terms
terms_of b = record { maturity = b.maturity; rate = b.rate; frequency = coupons_a_year b.frequency }

-- refusals 25 and 26, and 27 for frequency and rate
abbrev pub check_bond : Terms → Date → Finding
check_bond t date = and_then (check_dates date t.maturity) (if in_form t then Passed else Refused 27 0)

-- the bond of these terms, seen from a date, or their refusal
abbrev pub Seen : Terms → Date → Result Bond Refusal → Type 0
Seen t date r = MatchResult r (λ b. (terms_of b ≡ t) × (b.date ≡ date)) (λ e. check_bond t date ≡ Refused (number_of e) (item_of e))

-- what a bond keeps, of its terms and its date: frequency and rate are in their ranges, maturity and the date are of the calendar, and
-- the date lies before maturity
pub record Dated (t : Terms) (date : Date) : Type 0 where
  pub formed : in_form t ≡ true
  pub matures : in_calendar t.maturity ≡ true
  pub known : in_calendar date ≡ true
  pub before : day_number date < day_number t.maturity

-- ---- dates with a flow

-- the dates after a day are those of the places below n
pub record DueBelow (t : Terms) (after n : ℕ) : Type 0 where
  pub due : (j : ℕ) → due_after t after j ≡ ltb j n
  pub some : 1 ≤ n
  pub most : n ≤ 200

-- n − 1, n − 2, .. 0
unfoldable pub countdown : ℕ → List ℕ
countdown zero = []
countdown (suc n) = n ∷ countdown n

-- so many flows, and room for them
pub record Counted (t : Terms) (evaluation : Date) (count room : ℕ) : Type 0 where
  pub dates : dates_of t evaluation ≡ countdown count
  pub most : count ≤ 120
  pub fits : 8 * count ≤ room
