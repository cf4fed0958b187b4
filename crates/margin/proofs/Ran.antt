-- The two ends of a run: what makes a refusal, and what makes a margin, all that the entry promises.
-- Assumes nothing.
use Prim.Native.Nat.{ℕ}
use mathlib.Core.List.{List}
use mathlib.Core.Path.{◌≡◌, ap}
use lib.IntN.{ℤ}
use lib.ListN.{length}
use Rattle.std.specs.Prelude.{Ok, Err}
use Rattle.numbers.specs.declared.error.Refusal.{Refusal as Reason}
use Rattle.margin.specs.declared.Figures.{Figures}
use Rattle.numbers.specs.Findings.{Passed, Refused, number_of, item_of}
use Rattle.reading.specs.Book.{market_of, positions_of}
use Rattle.margin.specs.Check.{lent, check_run}
use Rattle.margin.specs.InnerContracts.{Done}
use Rattle.margin.specs.Run.{values_of, outcome_to, Values, Ran}

module _ (book : List ℕ) (exposures returns : List ℤ) (list : List ℕ) where
  -- a refusal, and every buffer as it was
  pub refusal_ran : (reason : Reason) → check_run book (lent (length exposures) (length returns) (length list)) ≡ Refused (number_of reason) (item_of reason)
      → Ran book exposures returns list (Err reason) exposures returns list
  unfolding outcome_to
  refusal_ran reason e = record { answered = rw e; left = record { exposed = rw e; returned = rw e; listed = rw e } }

  -- a margin, and every buffer filled
  pub margin_ran : (f : Figures) (exposures' returns' : List ℤ) (list' : List ℕ)
      → check_run book (lent (length exposures) (length returns) (length list)) ≡ Passed
      → Done (market_of book) (positions_of book) exposures returns list f exposures' returns' list'
      → Ran book exposures returns list (Ok f) exposures' returns' list'
  unfolding outcome_to
  margin_ran f exposures' returns' list' e done =
      record {
        answered = rw e (ap (λ (g : Figures). Values (values_of g)) done.figures);
        left = record { exposed = rw e done.exposed; returned = rw e done.returned; listed = rw e done.listed };
      }
