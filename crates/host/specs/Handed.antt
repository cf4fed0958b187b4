-- What the C boundary hands out.
use Rattle.std.specs.Prelude.{ℕ, ◌+◌, ◌*◌, List, ◌≡◌, ℤ, length}
use Rattle.margin.specs.Check.{lent}
use Rattle.margin.specs.Run.{Outcome, Values, Refusal, outcome_to, BuffersAfter}

-- number × 65,536 + item of a refusal, 0 for a margin
abbrev pub code_of : Outcome → ℕ
code_of (Values values) = 0
code_of (Refusal number item) = number * 65536 + item

-- the ten figures: a margin's values, or what was there before a refusal
abbrev pub figures_after : Outcome → List ℕ → List ℕ
figures_after (Values values) old = values
figures_after (Refusal number item) old = old

-- the code, the figures, and the buffers as a run leaves them, for every book and every buffer
pub record Handed (book : List ℕ) (exposures returns : List ℤ) (list figures : List ℕ) (code : ℕ) (exposures' returns' : List ℤ) (list' figures' : List ℕ) : Type 0 where
  pub coded : code ≡ code_of (outcome_to book (lent (length exposures) (length returns) (length list)))
  pub figured : figures' ≡ figures_after (outcome_to book (lent (length exposures) (length returns) (length list))) figures
  pub left : BuffersAfter book exposures returns list exposures' returns' list'
