use mathlib.Core.Path.{sym, refl, ◌∙◌}
use native.Mathlib.Omega.{arith}
use Rattle.numbers.proofs.Items.{reached_next, reached_bad, reached_end}
use Rattle.reading.proofs.Checks.{price_code_lem}
use Rattle.std.proofs.Common.{true, false}
use Rattle.reading.proofs.prices.Prices.check_each.Goals as goal

pub returns-then-not-all_within : goal.returns-then-not-all_within
returns-then-not-all_within c =
    reached_bad _ _ _ 9 c.loop-v.invariant c.loop-v-test.true
    (sym (price_code_lem _ _ _ _ false refl (sym c.all_within.ensures ∙ c.if-not-all_within.true)))
    (λ e. omega (arith, e))

pub loop-v-preserved : goal.loop-v-preserved
loop-v-preserved c = reached_next _ _ _ c.loop-v.invariant c.loop-v-test.true
    (price_code_lem _ _ _ _ true refl (sym c.all_within.ensures ∙ c.if-not-all_within.false))

pub returns : goal.returns
returns c = reached_end _ _ _ c.loop-v.invariant c.loop-v-test.false
