-- `margin::check` meets its contract. 1 to 21 passed before the buffers are tested.
use mathlib.Core.Path.{sym, ◌∙◌}
use Rattle.numbers.proofs.Findings.{passed_on}
use Rattle.scenarios.proofs.Sound.{book_sections}
use Rattle.margin.specs.Check.{check_run}
use Rattle.margin.proofs.check.Goals as goal

pub of-requires : goal.of-requires
of-requires c = book_sections _ (sym c.in_ok-check.ensures)

pub returns-in_err-check : goal.returns-in_err-check
unfolding check_run
returns-in_err-check c = passed_on _ _ c.from_residual.ensures.1 ∙ simp (sym c.in_err-check.ensures)

pub returns : goal.returns
unfolding check_run
returns c = simp (sym c.in_ok-check.ensures) (rw (← c.of.ensures) c.check_buffers.ensures)
