-- What the C boundary hands out of a bond's terms.
use Rattle.std.specs.Prelude.{ℕ, ◌+◌, ◌*◌, List, ◌≡◌, length}
use Rattle.calendar.specs.declared.Date.{Date}
use Rattle.schedule.specs.declared.Terms.{Terms}
use Rattle.schedule.specs.Drawn.{Outcome, Count, Refusal, outcome_to, buffer_after}

-- terms, as their numbers come over the boundary
abbrev pub terms : Date → ℕ → ℕ → Terms
terms maturity rate frequency = record { maturity = maturity; rate = rate; frequency = frequency }

-- how many flows, or number × 65,536 + item of a refusal. There are at most 120 flows and the numbers are 25 to 27, of an
-- inflation bond 25 to 30 (`OutcomesRanged`), so that no code means both
abbrev pub flows_code : Outcome → ℕ
flows_code (Count count) = count
flows_code (Refusal number item) = number * 65536 + item

-- the code, and every byte of the buffer, for any terms, any evaluation date and any buffer
pub record HandedFlows (t : Terms) (evaluation : Date) (old : List ℕ) (code : ℕ) (new : List ℕ) : Type 0 where
  pub coded : code ≡ flows_code (outcome_to t evaluation (length old))
  pub left : new ≡ buffer_after t evaluation old
