-- The checked example of a return, and the printed book's scenarios.
use Rattle.std.specs.Prelude.{◌≡◌, [], ◌∷◌, pos, negsuc}
use Rattle.numbers.specs.Buffers.{table}
use Rattle.numbers.specs.Findings.{Passed}
use Rattle.reading.specs.Book.{market_of}
use Rattle.valuing.specs.Examples.{printed_book}
use Rattle.scenarios.specs.Check.{check_book}
use Rattle.scenarios.specs.Returns.{return_of}
use Rattle.scenarios.specs.Scaled.{unscaled, scaled}

-- "Return 2,000,000 to 1,999,999: −1."
pub record ReturnExample : Type 0 where
  pub lower : return_of 2000000 1999999 ≡ negsuc 0

-- the printed book, with "LP 4, hp 1, sw 0, .. smoothing factor 940" and the "prices 1000000 980000 999600 979608 979608 and
-- 1000000 1030000 1030000 1009400 1009400": it is accepted up to here, and the four scenarios of its two vertices, of each kind
pub record PrintedReturns : Type 0 where
  pub passed : check_book printed_book ≡ Passed
  pub first_unscaled : table (unscaled (market_of printed_book) 0) 4 0 ≡ negsuc 19999 ∷ pos 20000 ∷ negsuc 19999 ∷ pos 0 ∷ []
  pub second_unscaled : table (unscaled (market_of printed_book) 1) 4 0 ≡ pos 30000 ∷ pos 0 ∷ negsuc 19999 ∷ pos 0 ∷ []
  pub first_scaled : table (scaled (market_of printed_book) 0) 4 0 ≡ negsuc 19694 ∷ pos 19695 ∷ negsuc 19694 ∷ pos 0 ∷ []
  pub second_scaled : table (scaled (market_of printed_book) 1) 4 0 ≡ pos 28875 ∷ pos 0 ∷ negsuc 19694 ∷ pos 0 ∷ []
