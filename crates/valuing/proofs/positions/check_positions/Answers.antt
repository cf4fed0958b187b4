-- `valuing::positions::check_positions` meets its contract. The two returns are the definition's.
use mathlib.Core.Path.{sym, ◌∙◌}
use Rattle.valuing.proofs.Checks.{form_whole, form_good, form_bad}
use Rattle.valuing.proofs.positions.check_positions.Goals as goal

pub returns-then-not-whole : goal.returns-then-not-whole
returns-then-not-whole c = form_bad _ _ (sym (c.whole.ensures ∙ form_whole c.args.positions.now) ∙ c.if-not-whole.true)

pub returns : goal.returns
returns c = form_good _ _ _ (sym (c.whole.ensures ∙ form_whole c.args.positions.now) ∙ c.if-not-whole.false) (rw (← c.position_count.ensures) c.check_each.ensures)
