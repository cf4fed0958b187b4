-- `valuing::curves::Place::price` meets its contract. With nothing left of the days between two vertices it is the vertex's own, else on the
-- line.
use mathlib.Core.Path.{sym, ◌∙◌}
use Rattle.valuing.proofs.Apart.{left_within, left_upper, price_alone, price_by_left}
use Rattle.valuing.proofs.Checks.{held_priced, held_near, held_left, price_within}
use Rattle.valuing.proofs.curves.Place.price.Goals as goal

pub returns-then-self-eq0-clause-value : goal.returns-then-self-eq0-clause-value
returns-then-self-eq0-clause-value c =
    c.newest-y.ensures ∙ price_alone _ _ _ (held_near c.args.self.now) _ _ (sym (held_left c.args.self.now) ∙ c.if-self-eq0.true)

pub overflow_sub-self : goal.overflow_sub-self
overflow_sub-self c = left_upper _ _ _ (λ none. c.if-self-eq0.false (held_left c.args.self.now ∙ none))

pub line-requires : goal.line-requires
line-requires c = rw (held_left c.args.self.now, c.apart.ensures) (left_within _ _ _ (held_near c.args.self.now))

pub returns-clause-value : goal.returns-clause-value
returns-clause-value c =
    c.line.ensures
    ∙ rw (held_left c.args.self.now, c.apart.ensures)
    (price_by_left _ _ _ (held_near c.args.self.now) _ _ (λ none. c.if-self-eq0.false (held_left c.args.self.now ∙ none)) c.newest.ensures c.newest-y.ensures)

pub returns-clause-bound : goal.returns-clause-bound
returns-clause-bound c = price_within _ _ _ (held_priced c.args.self.now.curve.now) (held_near c.args.self.now) (returns-clause-value c)
