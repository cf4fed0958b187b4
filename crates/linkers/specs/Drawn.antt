-- What an inflation bond comes to on a day, and what the lent buffer then holds.
use Rattle.std.specs.Prelude.{ℕ, List, ◌≡◌, length, Result}
use Rattle.calendar.specs.declared.Date.{Date}
use Rattle.linkers.specs.declared.Linker.{Linker}
use Rattle.numbers.specs.declared.error.Refusal.{Refusal as Reason}
use Rattle.schedule.specs.Flows.{flow_dates, records_in}
use Rattle.schedule.specs.Drawn.{days_to, Outcome, outcome_of, outcome_for, written}
use Rattle.linkers.specs.Coefficients.{indexed_amount}
use Rattle.linkers.specs.Check.{due_on, check_linker}

-- the dates with a flow: "a coupon that becomes 0 is left out"
abbrev pub indexed_dates : Linker → Date → List ℕ → List ℕ
indexed_dates l evaluation prices = flow_dates (due_on l evaluation) (indexed_amount l prices)

-- so many flows, or the one refusal, for a buffer of so many bytes
unfoldable pub outcome_to : Linker → Date → List ℕ → ℕ → Outcome
outcome_to l evaluation prices room = outcome_for (check_linker l evaluation prices room) (length (indexed_dates l evaluation prices))

-- the flows of the first n dates in a buffer that held `old`, and later bytes as they were; days run from evaluation
abbrev pub flows_in : Linker → Date → List ℕ → ℕ → List ℕ → List ℕ
flows_in l evaluation prices n old =
    records_in (days_to l.terms evaluation) (indexed_amount l prices) (indexed_dates l evaluation prices) n old

-- what a buffer then holds that held `old`
unfoldable pub buffer_after : Linker → Date → List ℕ → List ℕ → List ℕ
buffer_after l evaluation prices old = flows_in l evaluation prices (written (outcome_to l evaluation prices (length old))) old

-- ---- the answer and every byte, for any terms, any evaluation date, any prices and any buffer

pub record Drawn (l : Linker) (evaluation : Date) (prices old : List ℕ) (answer : Result ℕ Reason) (new : List ℕ) : Type 0 where
  pub answered : outcome_of answer ≡ outcome_to l evaluation prices (length old)
  pub left : new ≡ buffer_after l evaluation prices old
