-- `valuing::positions::check_position` meets its contract. Each return is one of the definition's three cases.
use mathlib.Core.Path.{refl, ap, ◌∙◌}
use native.Mathlib.Omega.{arith}
use Rattle.numbers.specs.Findings.{judged}
use Rattle.numbers.proofs.Signs.{came}
use Rattle.valuing.proofs.Checks.{position_18, position_19, position_good}
use Rattle.std.proofs.Common.{◌≡◌, ℕ, nat_abs, w64}
use Rattle.valuing.specs.InnerContracts.{position_in}
use Rattle.valuing.proofs.positions.check_position.Goals as goal

pub returns-then-bond_count-own : goal.returns-then-bond_count-own
returns-then-bond_count-own c =
    ap (λ (k : ℕ). judged k c.args.p) (position_18 _ (position_in c.args.own) (rw (← c.bond_count.ensures) c.if-bond_count-own.true))

pub returns-then-unsigned_abs-gt10000000000 : goal.returns-then-unsigned_abs-gt10000000000
returns-then-unsigned_abs-gt10000000000 c =
    let size : c.unsigned_abs.result ≡ nat_abs c.args.own.nominal = c.unsigned_abs.ensures.value ∙ ap nat_abs (came w64 c.args.own.nominal (omega arith) refl) in
    ap (λ (k : ℕ). judged k c.args.p)
    (position_19 _ (position_in c.args.own) (rw (← c.bond_count.ensures) c.if-bond_count-own.false) (rw (← size) c.if-unsigned_abs-gt10000000000.true))

pub returns : goal.returns
returns c =
    let size : c.unsigned_abs.result ≡ nat_abs c.args.own.nominal = c.unsigned_abs.ensures.value ∙ ap nat_abs (came w64 c.args.own.nominal (omega arith) refl) in
    ap (λ (k : ℕ). judged k c.args.p)
    (position_good _ (position_in c.args.own) (rw (← c.bond_count.ensures) c.if-bond_count-own.false) (rw (← size) c.if-unsigned_abs-gt10000000000.false))
