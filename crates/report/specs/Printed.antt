-- What the program prints for a book.
use Rattle.std.specs.Prelude.{ℕ, List, ◌++◌, ltb, length, replicate, drop, ◌≡◌, if◌then◌else◌}
use Rattle.reading.specs.Book.{market_of, positions_of}
use Rattle.margin.specs.Check.{Lent, lent, check_run}
use Rattle.margin.specs.Run.{outcome_to, afterwards, list_in}
use Rattle.report.specs.Text.{lines_of, too_long}

-- the buffers that the program lends: 64 exposures, 16,384 returns, a list of 32
abbrev pub program_lent : Lent
program_lent = lent 64 16384 32

-- what the scenario list's buffer, all zeros before, holds after a run
unfoldable pub list_after : List ℕ → List ℕ
list_after book = afterwards (check_run book program_lent) (list_in (market_of book) (positions_of book) (replicate 32 0)) (replicate 32 0)

-- "above 32,768 bytes, `toolong`, and the unit is not run."
unfoldable pub printed : List ℕ → List ℕ
printed book = if ltb 32768 (length book) then too_long else lines_of (outcome_to book program_lent) (list_after book)

-- the text stands at the buffer's start, and then what stood there before
pub record Printed (text old : List ℕ) (end : ℕ) (new : List ℕ) : Type 0 where
  pub ends : end ≡ length text
  pub holds : new ≡ text ++ drop (length text) old
