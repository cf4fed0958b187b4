-- `valuing::flows::check_flows` meets its contract. Each return is one of the definition's four cases.
use mathlib.Core.Path.{sym, ap, ◌∙◌}
use Rattle.numbers.specs.Findings.{judged}
use Rattle.valuing.proofs.Checks.{held_priced, last_fits, code_14, code_15, code_16, code_good, flows_ready}
use Rattle.std.proofs.Common.{ℕ}
use Rattle.valuing.proofs.flows.check_flows.Goals as goal

pub at-last-requires : goal.at-last-requires
at-last-requires c = rw c.last.ensures (last_fits _ (held_priced c.args.curve.now))

pub worthless-requires : goal.worthless-requires
worthless-requires c =
    flows_ready _ _ _ (c.at-last.ensures.days ∙ cc) (sym c.days_good.ensures ∙ c.if-not-days_good.false)
    (sym c.amounts_good.ensures ∙ c.if-not-amounts_good.false) c.requires

pub returns-then-not-days_good : goal.returns-then-not-days_good
returns-then-not-days_good c =
    ap (λ (k : ℕ). judged k c.args.i) (code_14 _ _ _ (c.at-last.ensures.days ∙ cc) (sym c.days_good.ensures ∙ c.if-not-days_good.true))

pub returns-then-not-amounts_good : goal.returns-then-not-amounts_good
returns-then-not-amounts_good c =
    ap (λ (k : ℕ). judged k c.args.i)
    (code_15 _ _ _ (c.at-last.ensures.days ∙ cc) (sym c.days_good.ensures ∙ c.if-not-days_good.false)
    (sym c.amounts_good.ensures ∙ c.if-not-amounts_good.true))

pub returns-then-worthless : goal.returns-then-worthless
returns-then-worthless c =
    ap (λ (k : ℕ). judged k c.args.i)
    (code_16 _ _ _ (c.at-last.ensures.days ∙ cc) (sym c.days_good.ensures ∙ c.if-not-days_good.false)
    (sym c.amounts_good.ensures ∙ c.if-not-amounts_good.false) (sym c.worthless.ensures ∙ c.if-worthless.true))

pub returns : goal.returns
returns c =
    ap (λ (k : ℕ). judged k c.args.i)
    (code_good _ _ _ (c.at-last.ensures.days ∙ cc) (sym c.days_good.ensures ∙ c.if-not-days_good.false)
    (sym c.amounts_good.ensures ∙ c.if-not-amounts_good.false) (sym c.worthless.ensures ∙ c.if-worthless.false))
