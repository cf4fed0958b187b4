-- `valuing::curves::Curve::days_apart` meets its contract. A vertex with one below it lies past that.
use mathlib.Core.Path.{sym, ◌∙◌}
use native.Mathlib.Omega.{arith}
use Rattle.valuing.proofs.Apart.{apart_first, apart_later, later_past}
use Rattle.valuing.proofs.curves.Curve.days_apart.Goals as goal

pub returns-then-is_first : goal.returns-then-is_first
returns-then-is_first c = c.new.ensures ∙ apart_first _ _ (sym c.is_first.ensures ∙ c.if-is_first.true)

pub overflow_sub-b : goal.overflow_sub-b
overflow_sub-b c =
    omega (arith, later_past _ c.requires.sound _ c.requires.known (sym c.is_first.ensures ∙ c.if-is_first.false), c.at.ensures.days, c.at-2.ensures.days)

pub returns : goal.returns
returns c =
    c.new-2.ensures ∙ (c.from.ensures ∙ rw (c.at.ensures.days, c.at-2.ensures.days) (apart_later _ _ (sym c.is_first.ensures ∙ c.if-is_first.false)))
