use mathlib.Core.Path.{◌≡◌, sym, ◌∙◌}
use mathlib.Core.Bool.{true}
use Rattle.numbers.specs.Conditions.{within}
use Rattle.numbers.proofs.Ranges.{contained}
use native.Mathlib.Omega.{arith}
use Rattle.numbers.proofs.Items.{in_range_lem, sum_none, sum_next, every_none, every_next}
use Rattle.valuing.proofs.Checks.{amounts_bad, amounts_end}
use Rattle.std.proofs.Common.{rules, ◌+◌}
use Rattle.valuing.proofs.flows.amounts_good.Goals as goal

pub loop-j-init : goal.loop-j-init
loop-j-init c = record { good = every_none _; totals = sym (sum_none ◌+◌ 0 _); small = search rules }

pub returns-then-not-contains : goal.returns-then-not-contains
returns-then-not-contains c = amounts_bad _ c.loop-j.j (omega arith) (rw (← c.at-amount.ensures.amount) (sym (contained _ _ _ _ _ c.new.ensures.start c.new.ensures.end c.new.ensures.exhausted c.contains.ensures.value) ∙ c.if-not-contains.true))

pub loop-j-preserved : goal.loop-j-preserved
loop-j-preserved c =
    let good : within 1 10000000 c.at-amount.result.amount ≡ true = sym (contained _ _ _ _ _ c.new.ensures.start c.new.ensures.end c.new.ensures.exhausted c.contains.ensures.value) ∙ c.if-not-contains.false in
    record {
      good = every_next _ _ c.loop-j.invariant.good (rw (← c.at-amount.ensures.amount) good);
      totals = rw (c.loop-j.invariant.totals, c.at-amount.ensures.amount) (sym (sum_next ◌+◌ 0 _ _));
      small = omega (arith, (in_range_lem 1 10000000 c.at-amount.result.amount good).1);
    }

pub returns : goal.returns
returns c = amounts_end _ _ _ (omega arith) c.loop-j.invariant.good c.loop-j.invariant.totals
