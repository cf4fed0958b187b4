-- `scenarios::check` meets its contract. 1 to 20 passed before the returns are tested.
use mathlib.Core.Path.{sym, ◌∙◌}
use Rattle.numbers.proofs.Findings.{passed_on}
use Rattle.scenarios.specs.Check.{check_book}
use Rattle.valuing.proofs.Sound.{sections_passed}
use Rattle.scenarios.proofs.check.Goals as goal

pub returns-in_err-check : goal.returns-in_err-check
unfolding check_book
returns-in_err-check c = passed_on _ _ c.from_residual.ensures.1 ∙ simp (sym c.in_err-check.ensures)

pub of-requires : goal.of-requires
of-requires c = sections_passed _ (sym c.in_ok-check.ensures)

pub returns : goal.returns
unfolding check_book
returns c = simp (sym c.in_ok-check.ensures) (rw (← c.of.ensures) c.check_returns.ensures)
