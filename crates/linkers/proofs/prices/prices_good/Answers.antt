use mathlib.Core.Path.{sym, ap, ◌∙◌}
use native.Mathlib.Omega.{arith}
use Rattle.numbers.specs.Conditions.{within}
use Rattle.numbers.specs.Items.{every}
use Rattle.numbers.proofs.Items.{every_none, every_more}
use Rattle.linkers.specs.Numbers.{price_of}
use Rattle.std.proofs.Common.{◌≡◌, length}
use Rattle.linkers.proofs.prices.prices_good.Goals as goal

pub loop-i-init : goal.loop-i-init
loop-i-init c = sym (every_none _)

pub loop-i-preserved : goal.loop-i-preserved
loop-i-preserved c = rw (c.loop-i.invariant, c.price_good-good.ensures) (sym (every_more (λ i. within 1 10000000 (price_of c.args.prices.now i)) c.loop-i.i))

pub returns : goal.returns
returns c =
    let end : c.loop-i.i ≡ length c.args.prices.now = omega (arith, c.loop-i.auto.i-end, c.loop-i-test.false) in
    c.loop-i.invariant ∙ ap (every (λ i. within 1 10000000 (price_of c.args.prices.now i))) end
