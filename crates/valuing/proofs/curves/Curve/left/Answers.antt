-- `valuing::curves::Curve::left` meets its contract.
use mathlib.Core.Path.{sym, ◌∙◌}
use Rattle.valuing.proofs.Apart.{left_first, left_later}
use Rattle.valuing.proofs.curves.Curve.left.Goals as goal

pub returns-then-is_first : goal.returns-then-is_first
returns-then-is_first c = left_first _ _ _ (sym c.is_first.ensures ∙ c.if-is_first.true)

pub returns-else-is_first : goal.returns-else-is_first
returns-else-is_first c = rw c.at.ensures.days (left_later _ _ _ (sym c.is_first.ensures ∙ c.if-is_first.false))
