-- What the C boundary hands out of an inflation bond's terms.
use Rattle.std.specs.Prelude.{ℕ, List, ◌≡◌, not, eqb, length}
use Rattle.calendar.specs.declared.Date.{Date}
use Rattle.schedule.specs.declared.Terms.{Terms}
use Rattle.linkers.specs.declared.Linker.{Linker}
use Rattle.linkers.specs.Drawn.{outcome_to, buffer_after}
use Rattle.host.specs.HandedFlows.{flows_code}

-- an inflation bond, as its numbers come over the boundary: it is a BTP Italia where the last is not 0
abbrev pub linker : Terms → Date → ℕ → Linker
linker terms issue btp_italia = record { terms = terms; issue = issue; btp_italia = not (eqb btp_italia 0) }

-- the code, and every byte of the buffer, for any bond, any evaluation date, any prices and any buffer
pub record HandedLinkers (l : Linker) (evaluation : Date) (prices old : List ℕ) (code : ℕ) (new : List ℕ) : Type 0 where
  pub coded : code ≡ flows_code (outcome_to l evaluation prices (length old))
  pub left : new ≡ buffer_after l evaluation prices old
