-- The checked examples of value, share and price, and the printed book with its exposures.
use Rattle.std.specs.Prelude.{ℕ, ◌≡◌, List, [], ◌∷◌, ◌++◌, pos, negsuc}
use Rattle.numbers.specs.Findings.{Passed}
use Rattle.reading.specs.Book.{market_of, positions_of}
use Rattle.valuing.specs.Curves.{Curve, curve_with, price_for}
use Rattle.valuing.specs.Positions.{value_of}
use Rattle.valuing.specs.Mapping.{mapped_for, exposure}
use Rattle.valuing.specs.Check.{check_valued}

-- vertices 90 and 180 of curve 0, with the one price 900,000 and 900,001
abbrev pub two_vertices : Curve
two_vertices = curve_with (0 ∷ 0 ∷ 90 ∷ 0 ∷ 0 ∷ 0 ∷ 180 ∷ 0 ∷ []) (160 ∷ 187 ∷ 13 ∷ 0 ∷ 161 ∷ 187 ∷ 13 ∷ 0 ∷ []) 1 0

-- "Nominal −1 at 500,000: value −1." "Share 100,001 at 108 days between 90 and 180: 80,000 and 20,001; −100,001: −80,000
-- and −20,001." "Price at 120 days between 900,000 at 90 and 900,001 at 180: 900,000."
pub record ValuingExamples : Type 0 where
  pub value : value_of (negsuc 0) 500000 ≡ negsuc 0
  pub lower : mapped_for two_vertices 108 (pos 100001) 0 ≡ pos 80000
  pub rest : mapped_for two_vertices 108 (pos 100001) 1 ≡ pos 20001
  pub lower_short : mapped_for two_vertices 108 (negsuc 100000) 0 ≡ negsuc 79999
  pub rest_short : mapped_for two_vertices 108 (negsuc 100000) 1 ≡ negsuc 20000
  pub price : price_for two_vertices 120 ≡ 900000

-- the printed book
-- the six pairs
abbrev printed_pairs : List ℕ
printed_pairs = 48 ∷ 0 ∷ 0 ∷ 0 ∷ 16 ∷ 0 ∷ 0 ∷ 0 ∷ 64 ∷ 0 ∷ 0 ∷ 0 ∷ 8 ∷ 0 ∷ 0 ∷ 0 ∷ 72 ∷ 0 ∷ 0 ∷ 0 ∷ 40 ∷ 0 ∷ 0 ∷ 0 ∷ 112 ∷ 0 ∷ 0 ∷ 0 ∷ 16 ∷ 0 ∷ 0 ∷ 0 ∷ 128 ∷ 0 ∷ 0 ∷ 0 ∷ 16 ∷ 0 ∷ 0 ∷ 0 ∷ 144 ∷ 0 ∷ 0 ∷ 0 ∷ 12 ∷ 0 ∷ 0 ∷ 0 ∷ []

-- LP 4, hp 1, sw 0, confidence 7,500, smoothing factor 940, double, p 80
abbrev printed_parameters : List ℕ
printed_parameters = 4 ∷ 0 ∷ 1 ∷ 0 ∷ 76 ∷ 29 ∷ 172 ∷ 3 ∷ 1 ∷ 80 ∷ 0 ∷ 0 ∷ 0 ∷ 0 ∷ 0 ∷ 0 ∷ []

-- vertices 365 and 730 of curve 0
abbrev printed_vertices : List ℕ
printed_vertices = 0 ∷ 0 ∷ 109 ∷ 1 ∷ 0 ∷ 0 ∷ 218 ∷ 2 ∷ []

-- prices 1000000 980000 999600 979608 979608 and 1000000 1030000 1030000 1009400 1009400
abbrev printed_prices : List ℕ
printed_prices = 64 ∷ 66 ∷ 15 ∷ 0 ∷ 32 ∷ 244 ∷ 14 ∷ 0 ∷ 176 ∷ 64 ∷ 15 ∷ 0 ∷ 152 ∷ 242 ∷ 14 ∷ 0 ∷ 152 ∷ 242 ∷ 14 ∷ 0 ∷ 64 ∷ 66 ∷ 15 ∷ 0 ∷ 112 ∷ 183 ∷ 15 ∷ 0 ∷ 112 ∷ 183 ∷ 15 ∷ 0 ∷ 248 ∷ 102 ∷ 15 ∷ 0 ∷ 248 ∷ 102 ∷ 15 ∷ 0 ∷ []

-- one bond at 1,000,000 with two flows
abbrev printed_bonds : List ℕ
printed_bonds = 0 ∷ 0 ∷ 0 ∷ 0 ∷ 64 ∷ 66 ∷ 15 ∷ 0 ∷ 0 ∷ 0 ∷ 0 ∷ 0 ∷ 2 ∷ 0 ∷ 0 ∷ 0 ∷ []

-- flows 365: 50,000 and 730: 1,050,000
abbrev printed_flows : List ℕ
printed_flows = 109 ∷ 1 ∷ 0 ∷ 0 ∷ 80 ∷ 195 ∷ 0 ∷ 0 ∷ 218 ∷ 2 ∷ 0 ∷ 0 ∷ 144 ∷ 5 ∷ 16 ∷ 0 ∷ []

-- nominal 1,000,000
abbrev printed_positions : List ℕ
printed_positions = 0 ∷ 0 ∷ 0 ∷ 0 ∷ 64 ∷ 66 ∷ 15 ∷ 0 ∷ 0 ∷ 0 ∷ 0 ∷ 0 ∷ []

abbrev pub printed_book : List ℕ
printed_book =
    printed_pairs ++ (printed_parameters ++ (printed_vertices ++ (printed_prices ++ (printed_bonds ++ (printed_flows ++ printed_positions)))))

-- it is accepted up to here, and "exposures 44,171 and 955,829"
pub record PrintedExposures : Type 0 where
  pub passed : check_valued printed_book ≡ Passed
  pub first : exposure (market_of printed_book) (positions_of printed_book) 0 ≡ pos 44171
  pub second : exposure (market_of printed_book) (positions_of printed_book) 1 ≡ pos 955829
