-- Checked examples of inflation bonds: W4's, the BTP Italia of document 004, and others that were worked out by hand and by another
-- program.
use Rattle.std.specs.Prelude.{ℕ, ◌+◌, ◌-◌, ◌*◌, Bool, true, false, ◌&&◌, List, [], ◌∷◌, ◌++◌, map, ◌≡◌}
use Rattle.calendar.specs.declared.Date.{Date}
use Rattle.schedule.specs.declared.Terms.{Terms}
use Rattle.linkers.specs.declared.Linker.{Linker}
use Rattle.numbers.specs.Conditions.{within}
use Rattle.numbers.specs.Buffers.{table}
use Rattle.calendar.specs.Dates.{date}
use Rattle.schedule.specs.Drawn.{days_to, Outcome, Count, Refusal}
use Rattle.schedule.specs.Examples.{bond}
use Rattle.linkers.specs.Numbers.{index_number, issue_number, coupon_number}
use Rattle.linkers.specs.Coefficients.{coefficient, indexed_amount}
use Rattle.linkers.specs.Drawn.{indexed_dates, outcome_to, buffer_after}

abbrev pub linker : Terms → Date → Bool → Linker
linker terms issue btp_italia = record { terms = terms; issue = issue; btp_italia = btp_italia }

-- so many months at 100
abbrev pub months_at_100 : ℕ → List ℕ
months_at_100 n = table (λ i. 1000000) n 0

-- ---- 004's example

-- "issue date: 23/04/2014; maturity date: 23/04/2020; real annual coupon rate: 0,825%; coupon frequency: 6 months"
abbrev pub printed_bond : Bool → Linker
printed_bond btp_italia = linker (bond 8250 2 (date 2020 4 23)) (date 2014 4 23) btp_italia

-- the prices of two months and, where no date needs them, of the four after them
abbrev pub half_year : ℕ → ℕ → List ℕ → List ℕ
half_year first second rest = first ∷ second ∷ (months_at_100 4 ++ rest)

-- "CPI m-3" and "CPI m-2" of its dates, from January 2014 on; 100 before
abbrev pub printed_prices : List ℕ
printed_prices =
    months_at_100 168
    ++ half_year 1001867 1000934 (half_year 1001867 1003735 (half_year 994398 997199 (half_year 1000934 1002801 (half_year 997000 995000
    (half_year 1000000 1002000 (half_year 1006000 1010000 (half_year 1010000 1014000 (half_year 1015000 1015000 (half_year 1019800 1020512
    (half_year 1024024 1024667 (half_year 1029478 1030520 (1035662 ∷ 1036637 ∷ []))))))))))))

-- its coupon dates, from 23 October 2014 to maturity
abbrev pub places : List ℕ
places = 11 ∷ 10 ∷ 9 ∷ 8 ∷ 7 ∷ 6 ∷ 5 ∷ 4 ∷ 3 ∷ 2 ∷ 1 ∷ 0 ∷ []

-- the "Index number" that it prints, in ten-thousandths, and the "IC" before any floor
abbrev pub printed_numbers : List ℕ
printed_numbers = 1003193 ∷ 996452 ∷ 1002259 ∷ 995533 ∷ 1001419 ∷ 1008933 ∷ 1012839 ∷ 1015000 ∷ 1020305 ∷ 1024495 ∷ 1030218 ∷ 1036377 ∷ []

abbrev pub printed_coefficients : List ℕ
printed_coefficients = 10020 ∷ 9933 ∷ 9991 ∷ 9924 ∷ 9982 ∷ 10057 ∷ 10039 ∷ 10021 ∷ 10052 ∷ 10041 ∷ 10056 ∷ 10060 ∷ []

-- figures in hundred-thousandths and in ten-thousandths: as many, and none is further than 0.0001 from the printed one
unfoldable pub near_printed : List ℕ → List ℕ → Bool
near_printed [] [] = true
near_printed (x ∷ xs) (p ∷ ps) = within (10 * p - 10) (10 * p + 10) x && near_printed xs ps
near_printed [] (p ∷ ps) = false
near_printed (x ∷ xs) [] = false

-- ---- others

-- prices of 100 that fall to 40 from January 2003 on
abbrev pub fallen : List ℕ
fallen = months_at_100 36 ++ table (λ i. 400000) 60 0

-- a coupon of a millionth once a year, issued on 15 July 2000 until 15 July 2004: the last two become 0
abbrev pub small : Linker
small = linker (bond 1 1 (date 2004 7 15)) (date 2000 7 15) false

-- the largest coupon, and prices that rise to 1,000 in April 2001 from so many ten-thousandths before it
abbrev pub large : Bool → Linker
large btp_italia = linker (bond 1000000 1 (date 2003 7 1)) (date 2000 7 1) btp_italia

abbrev pub risen : ℕ → List ℕ
risen p = table (λ i. p) 15 0 ++ table (λ i. 10000000) 60 0

-- evaluated on 1 January 2001
abbrev pub seen : Linker → List ℕ → ℕ → Outcome
seen l prices room = outcome_to l (date 2001 1 1) prices room

pub record LinkerExamples : Type 0 where
  -- "From 100.1867 (three before) and 100.0934, 23 April 2014 has 100.11828; from 100.1867 and 100.3735, 23 October 2014 has 100.31927
  -- and coefficient 1.00201."
  pub april_2014 : issue_number (printed_bond true) printed_prices ≡ 10011828
  pub october_2014 : coupon_number (printed_bond true) printed_prices 11 ≡ 10031927
  pub first_coefficient : coefficient (printed_bond true) printed_prices 11 ≡ 100201
  -- the whole example; 23 April 2019 has 102.44955, and 102.4495 is printed
  pub numbers : near_printed (map (coupon_number (printed_bond true) printed_prices) places) printed_numbers ≡ true
  pub april_2019 : coupon_number (printed_bond true) printed_prices 2 ≡ 10244955
  pub coefficients : near_printed (map (coefficient (printed_bond true) printed_prices) places) printed_coefficients ≡ true
  -- by the issue's number alone
  pub other : map (coefficient (printed_bond false) printed_prices) places ≡ 100201 ∷ 99527 ∷ 100107 ∷ 99436 ∷ 100024 ∷ 100774 ∷ 101164 ∷ 101380 ∷ 101910 ∷ 102329 ∷ 102900 ∷ 103515 ∷ []
  -- evaluated on 20 April 2018
  pub days : map (days_to (bond 8250 2 (date 2020 4 23)) (date 2018 4 20)) (indexed_dates (printed_bond true) (date 2018 4 20) printed_prices) ≡ 3 ∷ 186 ∷ 368 ∷ 551 ∷ 734 ∷ []
  pub amounts : map (indexed_amount (printed_bond true) printed_prices) (indexed_dates (printed_bond true) (date 2018 4 20) printed_prices) ≡ 4134 ∷ 4147 ∷ 4142 ∷ 4148 ∷ 1004150 ∷ []
  pub fits : outcome_to (printed_bond true) (date 2018 4 20) printed_prices 40 ≡ Count 5
  pub short : outcome_to (printed_bond true) (date 2018 4 20) printed_prices 39 ≡ Refusal 27 0
  -- evaluated before issue: all flows, and days from evaluation
  pub before_issue : outcome_to (printed_bond true) (date 2014 4 1) printed_prices 96 ≡ Count 12
  pub days_before_issue : map (days_to (bond 8250 2 (date 2020 4 23)) (date 2014 4 1)) (indexed_dates (printed_bond true) (date 2014 4 1) printed_prices) ≡ 205 ∷ 387 ∷ 570 ∷ 753 ∷ 936 ∷ 1118 ∷ 1301 ∷ 1483 ∷ 1666 ∷ 1848 ∷ 2031 ∷ 2214 ∷ []
  -- a half, in a February of 28 days with falling prices: 100.000075
  pub half : index_number (months_at_100 10 ++ 1000001 ∷ 1000000 ∷ []) 13 8 ≡ 10000008
  -- coupons that become 0 are left out, not the principal; 27 counts them
  pub left_out : seen small fallen 32 ≡ Count 3
  pub left : buffer_after small (date 2002 1 1) fallen (table (λ i. 9) 25 0) ≡ 195 ∷ 0 ∷ 0 ∷ 0 ∷ 1 ∷ 0 ∷ 0 ∷ 0 ∷ 158 ∷ 3 ∷ 0 ∷ 0 ∷ 64 ∷ 66 ∷ 15 ∷ 0 ∷ table (λ i. 9) 9 0
  pub counted : seen small fallen 31 ≡ Refusal 27 0
  -- 25 and 26
  pub no_such_day : outcome_to (linker (bond 1000001 3 (date 2001 1 1)) (date 2000 2 30) true) (date 2002 1 1) [] 0 ≡ Refusal 25 0
  pub issued_late : outcome_to (linker (bond 0 3 (date 2004 7 15)) (date 2004 7 15) true) (date 2001 1 1) [] 0 ≡ Refusal 26 0
  -- 27 before 28, 28 before 29, of a price that no date needs
  pub frequency : seen (linker (bond 0 3 (date 2004 7 15)) (date 2000 7 15) true) (0 ∷ []) 32 ≡ Refusal 27 0
  pub no_price : seen small (0 ∷ []) 32 ≡ Refusal 28 0
  pub high_price : seen small (10000001 ∷ fallen) 32 ≡ Refusal 28 0
  -- 29: the months of issue and of maturity need three months before, also on day 1, and also without coupons
  pub first_month : seen (linker (bond 0 1 (date 2004 7 15)) (date 2000 3 31) false) fallen 8 ≡ Refusal 29 0
  pub from_april : seen (linker (bond 0 1 (date 2004 7 15)) (date 2000 4 1) false) fallen 8 ≡ Count 1
  pub last_month : seen (large false) (months_at_100 40) 24 ≡ Refusal 29 0
  pub to_may : seen (large false) (months_at_100 41) 24 ≡ Count 3
  -- 30: a coupon of ten times the nominal, and a little more; the principal does not count, nor does a coupon that is paid
  pub highest : seen (large false) (risen 1000000) 24 ≡ Count 3
  pub too_high : seen (large true) (risen 999999) 24 ≡ Refusal 30 0
  pub paid_high : outcome_to (large true) (date 2001 7 1) (risen 999999) 16 ≡ Count 2
