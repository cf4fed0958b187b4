-- The definition of what the entry's answer says loses nothing of it; what an outcome says of the check; that a run has one answer.
-- Assumes nothing.
use Prim.Native.Nat.{ℕ}
use mathlib.Core.List.{List}
use mathlib.Core.Path.{◌≡◌, refl, sym, ap, ◌∙◌}
use native.Mathlib.Omega.{arith}
use lib.IntN.{ℤ}
use lib.ListN.{get_or}
use Rattle.std.specs.Prelude.{Result, Ok, Err}
use Rattle.numbers.specs.declared.error.Refusal.{Refusal as Reason}
use Rattle.numbers.proofs.Findings.{refusal_only}
use Rattle.margin.specs.declared.Figures.{Figures}
use Rattle.numbers.specs.Findings.{Finding, Passed, Refused, number_of, item_of}
use Rattle.reading.specs.Book.{market_of, positions_of}
use Rattle.margin.specs.Check.{Lent, check_run}
use Rattle.margin.specs.Figures.{figures_of}
use Rattle.margin.specs.Run.{Values, Refusal, values_of, outcome_of, outcome_for, outcome_to, Ran}

-- ---- answers

-- the figures that have these values
abbrev figures_from : List ℕ → Figures
figures_from v =
    record {
      k = get_or v 0 0;
      unscaled = record { tail = get_or v 1 0; undiversified = get_or v 2 0; addon = get_or v 3 0; total = get_or v 4 0 };
      scaled = record { tail = get_or v 5 0; undiversified = get_or v 6 0; addon = get_or v 7 0; total = get_or v 8 0 };
      euros = get_or v 9 0;
    }

-- each value is one figure
pub values_figures : (f : Figures) → figures_from (values_of f) ≡ f
values_figures f = refl

-- figures with the same values are the same
pub values_only : (f g : Figures) → values_of f ≡ values_of g → f ≡ g
values_only f g e = ap figures_from e

-- two answers that say the same are the same
pub outcome_only : (a b : Result Figures Reason) → outcome_of a ≡ outcome_of b → a ≡ b
outcome_only (Ok f) (Ok g) e = ap (λ (h : Figures). Ok h) (values_only f g cc)
outcome_only (Ok f) (Err b) e = absurd (let z : ◌≡◌ {A = ℕ} 0 1 = cc in omega arith)
outcome_only (Err a) (Ok g) e = absurd (let z : ◌≡◌ {A = ℕ} 0 1 = cc in omega arith)
outcome_only (Err a) (Err b) e =
    let number : number_of a ≡ number_of b = cc in
    let item : item_of a ≡ item_of b = cc in
    ap (λ (r : Reason). Err r) (refusal_only a b number item)

-- ---- outcomes

-- values come of a check that passed, and are those in hand
values_parts : (v : Finding) (values held : List ℕ) → outcome_for v held ≡ Values values → (v ≡ Passed) × (held ≡ values)
values_parts Passed values held e = (refl, cc)
values_parts (Refused number item) values held e = absurd (let z : ◌≡◌ {A = ℕ} 0 1 = cc in omega arith)

-- a refusal is the check's
refusal_parts : (v : Finding) (held : List ℕ) (number item : ℕ) → outcome_for v held ≡ Refusal number item → v ≡ Refused number item
refusal_parts Passed held number item e = absurd (let z : ◌≡◌ {A = ℕ} 0 1 = cc in omega arith)
refusal_parts (Refused number item) held number' item' e = cc

module _ (book : List ℕ) (b : Lent) where
  -- where the unit comes to values, 1 to 24 pass, and the values are those of the book's figures
  pub outcome_values : (values : List ℕ) → outcome_to book b ≡ Values values
      → (check_run book b ≡ Passed) × (values_of (figures_of (market_of book) (positions_of book)) ≡ values)
  unfolding outcome_to
  outcome_values values e = values_parts (check_run book b) values (values_of (figures_of (market_of book) (positions_of book))) e

  -- where it comes to a refusal, that is the check's
  pub outcome_refusal : (number item : ℕ) → outcome_to book b ≡ Refusal number item → check_run book b ≡ Refused number item
  unfolding outcome_to
  outcome_refusal number item e = refusal_parts (check_run book b) (values_of (figures_of (market_of book) (positions_of book))) number item e

  -- where 1 to 24 pass, it comes to the values of the book's figures
  pub passed_outcome : check_run book b ≡ Passed → outcome_to book b ≡ Values (values_of (figures_of (market_of book) (positions_of book)))
  unfolding outcome_to
  passed_outcome e = rw e

-- ---- runs

-- two runs of a book with the same buffers: the promise leaves one answer, and one content of each buffer
module _ {book : List ℕ} {exposures returns : List ℤ} {list : List ℕ} {a b : Result Figures Reason} {exposures' exposures'' returns' returns'' : List ℤ} {list' list'' : List ℕ}
    (one : Ran book exposures returns list a exposures' returns' list') (other : Ran book exposures returns list b exposures'' returns'' list'') where
  pub one_answer : a ≡ b
  one_answer = outcome_only a b (one.answered ∙ sym other.answered)

  pub one_content : (exposures' ≡ exposures'') × (returns' ≡ returns'') × (list' ≡ list'')
  one_content =
      (one.left.exposed ∙ sym other.left.exposed, one.left.returned ∙ sym other.left.returned, one.left.listed ∙ sym other.left.listed)
