use mathlib.Core.Path.{refl, ap, ◌∙◌}
use native.Mathlib.Omega.{arith}
use Rattle.numbers.proofs.Findings.{passed_on}
use Rattle.numbers.proofs.Items.{reached_start, reached_good}
use Rattle.numbers.proofs.Signs.{came}
use Rattle.valuing.specs.Positions.{position_at, value}
use Rattle.valuing.specs.InnerContracts.{position_in}
use Rattle.valuing.proofs.Checks.{values_none, values_next, position_is, value_is, judged_sound, position_refused, positions_end}
use Rattle.std.proofs.Common.{rules, ◌≡◌, nat_abs, w64, to_z, of_z}
use Rattle.valuing.proofs.positions.check_each.Goals as goal

pub loop-p-init : goal.loop-p-init
loop-p-init c = record { reached = reached_start _ _; totals = values_none _ _; small = search rules }

pub returns-in_err-check_position : goal.returns-in_err-check_position
returns-in_err-check_position c =
    passed_on _ _ c.from_residual.ensures.1
    ∙ position_refused _ _ _ _ c.loop-p.invariant.reached _ c.loop-p-test.true (rw (← position_is _ _ c.at-own.ensures.bond c.at-own.ensures.nominal) c.in_err-check_position.ensures)

pub at-price-requires : goal.at-price-requires
at-price-requires c = omega (arith, (judged_sound _ (position_in c.at-own.result) _ c.in_ok-check_position.ensures).0)

pub value-requires-clause-nominal : goal.value-requires-clause-nominal
value-requires-clause-nominal c = (judged_sound _ (position_in c.at-own.result) _ c.in_ok-check_position.ensures).1

pub value-requires-clause-price : goal.value-requires-clause-price
value-requires-clause-price c =
    rw c.at-price.ensures.dirty_price (c.requires.prices _ (judged_sound _ (position_in c.at-own.result) _ c.in_ok-check_position.ensures).0)

pub loop-p-preserved : goal.loop-p-preserved
loop-p-preserved c =
    let is : position_in c.at-own.result ≡ position_at c.args.positions.now c.loop-p.p = position_is _ _ c.at-own.ensures.bond c.at-own.ensures.nominal in
    let exact : to_z w64 (of_z w64 c.value.result) ≡ c.value.result = came w64 _ c.value.type_inv refl in
    let size : c.unsigned_abs-sizes.result ≡ nat_abs c.value.result = c.unsigned_abs-sizes.ensures.value ∙ ap nat_abs exact in
    let own : nat_abs c.value.result ≡ nat_abs (value c.args.bonds.now (position_at c.args.positions.now c.loop-p.p)) =
    ap nat_abs (value_is _ (position_in c.at-own.result) _ is c.at-price.ensures.dirty_price c.value.ensures.value) in
    record {
      reached = reached_good _ _ _ c.loop-p.invariant.reached c.loop-p-test.true (rw (← is) c.in_ok-check_position.ensures);
      totals = rw (c.loop-p.invariant.totals, size, own) (values_next _ _ _);
      small = omega (arith, size, c.value.ensures.bound);
    }

pub returns : goal.returns
returns c = positions_end _ _ _ _ c.loop-p.invariant.reached _ _ c.loop-p-test.false c.loop-p.invariant.totals c.check_total.ensures
