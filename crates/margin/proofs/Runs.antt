-- A run of every accepted book.
-- Assumes nothing.
use Prim.Native.Nat.{ℕ}
use mathlib.Core.List.{List}
use mathlib.Core.Path.{sym}
use lib.IntN.{ℤ}
use lib.ListN.{length}
use Rattle.margin.specs.declared.Figures.{Figures}
use Rattle.reading.specs.Book.{market_of, positions_of}
use Rattle.margin.specs.Check.{lent}
use Rattle.margin.specs.Demands.{Accepted, CameTo}
use Rattle.margin.specs.Run.{values_of, exposures_in, returns_in, list_in}
use Rattle.margin.proofs.Outcomes.{outcome_values}

-- every accepted book comes to its figures, whatever its buffers held
pub accepted_came : (book : List ℕ) (exposures returns : List ℤ) (list : List ℕ) (f : Figures)
    → Accepted book (lent (length exposures) (length returns) (length list)) f → CameTo book f (list_in (market_of book) (positions_of book) list)
accepted_came book exposures returns list f a =
    let passed = (outcome_values book (lent (length exposures) (length returns) (length list)) (values_of f) a).0 in
    record {
      exposures = exposures;
      returns = returns;
      list = list;
      exposures' = exposures_in (market_of book) (positions_of book) exposures;
      returns' = returns_in (market_of book) returns;
      ran = record { answered = sym a; left = record { exposed = rw passed; returned = rw passed; listed = rw passed } };
    }
