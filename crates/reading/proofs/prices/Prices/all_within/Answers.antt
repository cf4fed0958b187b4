use mathlib.Core.Path.{sym, ◌∙◌}
use Rattle.numbers.proofs.Items.{every_none, every_next, every_bad}
use Rattle.numbers.proofs.Ranges.{contained}
use Rattle.reading.proofs.prices.Prices.all_within.Goals as goal

pub loop-j-init : goal.loop-j-init
loop-j-init c = every_none _

pub returns-then-not-contains : goal.returns-then-not-contains
returns-then-not-contains c =
    let good = contained _ _ _ _ _ c.new.ensures.start c.new.ensures.end c.new.ensures.exhausted c.contains.ensures.value in
    sym (every_bad _ _ _ c.loop-j-test.true (rw (← c.price_entry-x.ensures) (sym good ∙ c.if-not-contains.true)))

pub loop-j-preserved : goal.loop-j-preserved
loop-j-preserved c =
    let good = contained _ _ _ _ _ c.new.ensures.start c.new.ensures.end c.new.ensures.exhausted c.contains.ensures.value in
    every_next _ _ c.loop-j.invariant (rw (← c.price_entry-x.ensures) (sym good ∙ c.if-not-contains.false))
