-- A refusal's number is 1 to 24 and its item below 4,096, for every book and every lent buffer.
-- Assumes nothing.
use Prim.Native.Nat.{ℕ, ◌*◌, ◌<◌}
use mathlib.Core.List.{List}
use mathlib.Core.Path.{◌≡◌, refl, sym, ap, ◌∙◌}
use native.Mathlib.Omega.{arith}
use lib.Dec.{leb}
use lib.IntN.{ℤ}
use lib.ListN.{length}
use Rattle.std.specs.Prelude.{Result, Err}
use Rattle.numbers.specs.declared.error.Refusal.{Refusal as Reason}
use Rattle.margin.specs.declared.Figures.{Figures}
use Rattle.numbers.specs.Findings.{Passed, Refused, number_of, item_of}
use Rattle.numbers.specs.Conditions.{In}
use Rattle.numbers.proofs.Refusals.{Small, small_passed, small_then, small_else, small_more}
use Rattle.reading.specs.Book.{Market, market_of}
use Rattle.reading.specs.Parameters.{tail_count}
use Rattle.reading.specs.Vertices.{vertex_count}
use Rattle.scenarios.specs.Buffer.{returns_size}
use Rattle.scenarios.specs.Check.{check_book}
use Rattle.scenarios.proofs.Refusals.{book_small}
use Rattle.margin.specs.Check.{Lent, lent, check_buffers, check_run}
use Rattle.margin.specs.Run.{Refusal, outcome_of, outcome_to, Ran}
use Rattle.margin.proofs.Outcomes.{outcome_refusal}

-- 22 to 24
pub buffers_small : (m : Market) (b : Lent) → Small 24 (check_buffers m b)
unfolding check_buffers
buffers_small m b =
    small_else (leb (vertex_count m.vertices) b.exposures) _ 22 refl
    (λ exposures. small_else (leb (returns_size m) b.returns) _ 23 refl
    (λ returns. small_else (leb (2 * tail_count m.parameters) b.list) Passed 24 refl (λ list. small_passed)))

-- every refusal has a number from 1 to 24 and an item below 4,096
pub refusal_small : (book : List ℕ) (b : Lent) (number item : ℕ) → check_run book b ≡ Refused number item → In 1 24 number × (item < 4096)
unfolding check_run
refusal_small book b =
    small_then (check_book book) (check_buffers (market_of book) b) (small_more 24 (omega arith) (book_small book)) (λ passed. buffers_small (market_of book) b)

-- ---- the answer

-- an outcome that is a refusal has such a number and item
pub outcome_small : (book : List ℕ) (b : Lent) (number item : ℕ) → outcome_to book b ≡ Refusal number item → In 1 24 number × (item < 4096)
outcome_small book b number item e = refusal_small book b number item (outcome_refusal book b number item e)

-- the same of what a run answers
pub ran_small : {book : List ℕ} {exposures returns : List ℤ} {list : List ℕ} {answer : Result Figures Reason} {exposures' returns' : List ℤ} {list' : List ℕ}
    → Ran book exposures returns list answer exposures' returns' list' → (reason : Reason) → answer ≡ Err reason → In 1 24 (number_of reason) × (item_of reason < 4096)
ran_small {book} {exposures} {returns} {list} ran reason e =
    outcome_small book (lent (length exposures) (length returns) (length list)) (number_of reason) (item_of reason) (sym ran.answered ∙ ap outcome_of e)
