use mathlib.Core.Path.{sym, ap, ◌∙◌}
use native.Mathlib.Omega.{arith}
use Rattle.numbers.specs.Findings.{judged}
use Rattle.numbers.proofs.Findings.{passed_on}
use Rattle.numbers.proofs.Items.{reached_start, reached_good, reached_refused, reached_end}
use Rattle.reading.proofs.Checks.{bond_judged, flows_none, flows_next}
use Rattle.std.proofs.Common.{rules, ◌*◌, ℕ}
use Rattle.reading.proofs.bonds.check_each.Goals as goal

pub loop-i-init : goal.loop-i-init
loop-i-init c = record { reached = reached_start _ _; counted = flows_none _; few = search rules }

pub returns-in_err-check : goal.returns-in_err-check
returns-in_err-check c =
    let code = bond_judged c.args.vertices.now c.args.bonds.now _ c.at-own.result _ _ c.loop-i.i c.curves-seen.ensures c.from.ensures (omega (arith, c.at-own.ensures.curve, c.type_inv.bonds (16 * c.loop-i.i))) c.at-own.ensures.curve c.at-own.ensures.zero c.at-own.ensures.dirty_price c.at-own.ensures.first_flow c.at-own.ensures.flow_count c.loop-i.invariant.counted in
    passed_on _ _ c.from_residual.ensures.1
    ∙ reached_refused _ _ _ c.loop-i.invariant.reached c.loop-i-test.true (c.in_err-check.ensures ∙ ap (λ (k : ℕ). judged k c.loop-i.i) code)

pub loop-i-preserved : goal.loop-i-preserved
loop-i-preserved c =
    let code = bond_judged c.args.vertices.now c.args.bonds.now _ c.at-own.result _ _ c.loop-i.i c.curves-seen.ensures c.from.ensures (omega (arith, c.at-own.ensures.curve, c.type_inv.bonds (16 * c.loop-i.i))) c.at-own.ensures.curve c.at-own.ensures.zero c.at-own.ensures.dirty_price c.at-own.ensures.first_flow c.at-own.ensures.flow_count c.loop-i.invariant.counted in
    record {
      reached = reached_good _ _ _ c.loop-i.invariant.reached c.loop-i-test.true (c.in_ok-check.ensures ∙ ap (λ (k : ℕ). judged k c.loop-i.i) code);
      counted = rw (c.loop-i.invariant.counted, c.from-start.ensures, c.at-own.ensures.flow_count) (sym (flows_next _ _));
      few = omega arith;
    }

pub returns : goal.returns
returns c = reached_end _ _ _ c.loop-i.invariant.reached c.loop-i-test.false
