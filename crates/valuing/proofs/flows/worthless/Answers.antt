use mathlib.Core.Path.{ap, sym, ◌∙◌}
use native.Mathlib.Omega.{arith}
use Rattle.valuing.proofs.Checks.{still_none, walk, walk_next, worth_is, some_worth, no_worth}
use Rattle.valuing.specs.Split.{worth_of}
use Rattle.valuing.proofs.Pricing.{worth_none}
use Rattle.std.proofs.Common.{rules}
use Rattle.valuing.proofs.flows.worthless.Goals as goal

pub loop-j-init : goal.loop-j-init
loop-j-init c = record { reached = search rules; none = worth_none _ _ }

pub place-place-requires-clause-low : goal.place-place-requires-clause-low
place-place-requires-clause-low c = walk _ _ c.requires _ (omega arith) c.at-flow.ensures.days c.loop-j.invariant.reached

pub returns-then-worth-ne0 : goal.returns-then-worth-ne0
returns-then-worth-ne0 c =
    some_worth _ _ c.loop-j.j (omega arith)
    (λ none. c.if-worth-ne0.true (worth_is _ _ c.requires _ (omega arith) c.at-flow.ensures.days c.place-place.ensures.upper c.at-flow.ensures.amount (c.worth.ensures ∙ ap (worth_of c.at-flow.result.amount) c.place-place.ensures.priced) ∙ none))

pub loop-j-preserved : goal.loop-j-preserved
loop-j-preserved c = record {
  reached = walk_next _ _ c.requires _ (omega arith) c.at-flow.ensures.days c.place-place.ensures.upper;
  none = still_none _ _ _ c.loop-j.invariant.none
      (sym (worth_is _ _ c.requires _ (omega arith) c.at-flow.ensures.days c.place-place.ensures.upper c.at-flow.ensures.amount (c.worth.ensures ∙ ap (worth_of c.at-flow.result.amount) c.place-place.ensures.priced)) ∙ c.if-worth-ne0.false);
}

pub returns : goal.returns
returns c = no_worth _ _ _ (omega arith) c.loop-j.invariant.none
