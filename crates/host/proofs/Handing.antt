-- The two ends of a call: what the C boundary hands out for a refusal and for a margin.
-- Assumes nothing.
use Prim.Native.Nat.{ℕ, ◌+◌, ◌*◌, ◌<◌}
use mathlib.Core.List.{List}
use mathlib.Core.Path.{◌≡◌, sym, ap, ◌∙◌}
use native.Mathlib.Omega.{arith}
use lib.IntN.{ℤ}
use Rattle.std.specs.Prelude.{Result, Ok, Err}
use Rattle.numbers.specs.declared.error.Refusal.{Refusal as Reason}
use Rattle.numbers.specs.Findings.{number_of, item_of}
use Rattle.margin.specs.declared.Figures.{Figures}
use Rattle.margin.specs.Run.{Outcome, values_of, outcome_of, Ran}
use Rattle.margin.proofs.Refusals.{ran_small}
use Rattle.host.specs.Handed.{code_of, figures_after, Handed}

module _ {book : List ℕ} {exposures returns : List ℤ} {list : List ℕ} {answer : Result Figures Reason} {exposures' returns' : List ℤ} {list' : List ℕ}
    (r : Ran book exposures returns list answer exposures' returns' list') where
  module _ (refusal : Reason) (is : answer ≡ Err refusal) where
    -- the code of a refusal fits
    pub code_fits : number_of refusal * 65536 + item_of refusal < 4294967296
    code_fits = omega (arith, ran_small r refusal is)

    -- a refusal: its code, and the figures as they were
    pub refusal_handed : (figures : List ℕ) (code : ℕ) → code ≡ number_of refusal * 65536 + item_of refusal
        → Handed book exposures returns list figures code exposures' returns' list' figures
    refusal_handed figures code packed =
        record {
          coded = packed ∙ ap code_of (sym (ap outcome_of is) ∙ r.answered);
          figured = ap (λ (o : Outcome). figures_after o figures) (sym (ap outcome_of is) ∙ r.answered);
          left = r.left;
        }

  -- a margin: 0, and its figures
  pub margin_handed : (f : Figures) (figures figures' : List ℕ) → answer ≡ Ok f → figures' ≡ values_of f
      → Handed book exposures returns list figures 0 exposures' returns' list' figures'
  margin_handed f figures figures' is held =
      record {
        coded = ap code_of (sym (ap outcome_of is) ∙ r.answered);
        figured = held ∙ ap (λ (o : Outcome). figures_after o figures) (sym (ap outcome_of is) ∙ r.answered);
        left = r.left;
      }
