-- `reading::check` meets its contract. Where the directory passed, the market decides.
use mathlib.Core.Path.{sym, ◌∙◌}
use Rattle.numbers.proofs.Findings.{passed_on}
use Rattle.reading.specs.Check.{check_sections}
use Rattle.reading.proofs.check.Goals as goal

pub returns-in_err-check_directory : goal.returns-in_err-check_directory
unfolding check_sections
returns-in_err-check_directory c = passed_on _ _ c.from_residual.ensures.1 ∙ simp (sym c.in_err-check_directory.ensures)

pub returns : goal.returns
unfolding check_sections
returns c = simp (sym c.in_ok-check_directory.ensures) (rw (← c.of.ensures) c.check_market.ensures)
