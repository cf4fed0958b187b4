-- Checked examples of flows from terms. No document has these; the dates were worked out by hand and by another program.
use Rattle.std.specs.Prelude.{ℕ, List, [], ◌∷◌, map, ◌≡◌}
use Rattle.calendar.specs.declared.Date.{Date}
use Rattle.schedule.specs.declared.Terms.{Terms}
use Rattle.calendar.specs.Dates.{date}
use Rattle.schedule.specs.Drawn.{days_to, amount_of, dates_of, Count, Refusal, outcome_to, buffer_after}

-- a rate in millionths a year, paid so many times a year until maturity
abbrev pub bond : ℕ → ℕ → Date → Terms
bond rate frequency maturity = record { maturity = maturity; rate = rate; frequency = frequency }

-- days and amounts of the flows
abbrev pub all_days : Terms → Date → List ℕ
all_days t evaluation = map (days_to t evaluation) (dates_of t evaluation)

abbrev pub all_amounts : Terms → Date → List ℕ
all_amounts t evaluation = map (amount_of t) (dates_of t evaluation)

-- four percent twice a year until 31 August 2020: 31 August, 28 or 29 February, 31 August again
abbrev pub august : Terms
august = bond 40000 2 (date 2020 8 31)

-- once a year until 29 February 2024, and on 28 February in years that have no 29th
abbrev pub leap_day : Terms
leap_day = bond 35001 1 (date 2024 2 29)

pub record FlowExamples : Type 0 where
  pub august_days : all_days august (date 2018 4 20) ≡ 133 ∷ 314 ∷ 498 ∷ 680 ∷ 864 ∷ []
  pub august_amounts : all_amounts august (date 2018 4 20) ≡ 20000 ∷ 20000 ∷ 20000 ∷ 20000 ∷ 1020000 ∷ []
  -- a buffer of five records, and one a byte short
  pub august_fits : outcome_to august (date 2018 4 20) 40 ≡ Count 5
  pub august_short : outcome_to august (date 2018 4 20) 39 ≡ Refusal 27 0
  -- evaluated the day before a coupon date, and on it
  pub august_before : all_days august (date 2020 2 28) ≡ 1 ∷ 185 ∷ []
  pub august_on : all_days august (date 2020 2 29) ≡ 184 ∷ []
  pub leap_days : all_days leap_day (date 2021 2 28) ≡ 365 ∷ 730 ∷ 1096 ∷ []
  pub leap_amounts : all_amounts leap_day (date 2021 2 28) ≡ 35001 ∷ 35001 ∷ 1035001 ∷ []
  -- a coupon of a half is rounded up, and one of 0 is left out: one flow, over the whole calendar; its bytes, and the byte behind
  pub half_up : all_amounts (bond 1 2 (date 2001 1 1)) (date 2000 6 30) ≡ 1 ∷ 1000001 ∷ []
  pub one_flow : buffer_after (bond 0 2 (date 2099 12 31)) (date 2000 1 1) (9 ∷ 9 ∷ 9 ∷ 9 ∷ 9 ∷ 9 ∷ 9 ∷ 9 ∷ 9 ∷ []) ≡ 172 ∷ 142 ∷ 0 ∷ 0 ∷ 64 ∷ 66 ∷ 15 ∷ 0 ∷ 9 ∷ []
  -- no date before January 2000 is one
  pub first_month : all_days (bond 50000 2 (date 2000 1 15)) (date 2000 1 1) ≡ 14 ∷ []
  -- the most flows, and one more
  pub most : outcome_to (bond 1 2 (date 2060 1 1)) (date 2000 1 1) 960 ≡ Count 120
  pub one_more : outcome_to (bond 1 2 (date 2060 7 1)) (date 2000 1 1) 968 ≡ Refusal 27 0
  -- 25: 29 February of a year that has none, whatever else is wrong; 2000 has one. 26: the same day, whatever the frequency
  pub no_such_day : outcome_to (bond 1000001 3 (date 2001 2 29)) (date 2002 1 1) 0 ≡ Refusal 25 0
  pub not_after : outcome_to (bond 0 3 (date 2000 2 29)) (date 2000 2 29) 0 ≡ Refusal 26 0
  pub frequency : outcome_to (bond 0 3 (date 2000 3 1)) (date 2000 2 29) 8 ≡ Refusal 27 0
  pub rate : outcome_to (bond 1000001 1 (date 2000 3 1)) (date 2000 2 29) 8 ≡ Refusal 27 0
