-- The example's lines and a refusal's hold, by computation.
-- Assumes nothing.
use mathlib.Core.List.{◌∷◌}
use mathlib.Core.Path.{◌≡◌, refl, ap, ◌∙◌}
use native.Mathlib.Omega.{arith}
use lib.ListN.{replicate}
use Rattle.margin.specs.Examples.{printed_values}
use Rattle.margin.specs.Run.{Outcome, Values, outcome_to}
use Rattle.margin.proofs.Examples.{starred_examples}
use Rattle.margin.proofs.Outcomes.{outcome_values}
use Rattle.valuing.specs.Examples.{printed_book}
use Rattle.report.specs.Decimal.{digits, decimal}
use Rattle.report.specs.Examples.{LineExamples}
use Rattle.report.specs.Printed.{program_lent, list_after, printed}
use Rattle.report.specs.Text.{fields, lines_of}

answered : outcome_to printed_book program_lent ≡ Values printed_values
answered = starred_examples.printed.values 64 16384 32 (omega arith) (omega arith) (omega arith)

listed : list_after printed_book ≡ 0 ∷ 0 ∷ replicate 30 0
unfolding list_after
listed = rw (outcome_values printed_book program_lent printed_values answered).0 (starred_examples.printed.lists 0 0 (replicate 30 0))

lines_are : printed printed_book ≡ lines_of (Values printed_values) (0 ∷ 0 ∷ replicate 30 0)
unfolding printed
lines_are = ap (λ (o : Outcome). lines_of o (list_after printed_book)) answered ∙ ap (lines_of (Values printed_values)) listed

pub line_examples : LineExamples
unfolding digits decimal fields lines_of
line_examples = record { margin = refl; refused = refl; program = lines_are ∙ refl }
