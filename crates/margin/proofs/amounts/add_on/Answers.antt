-- `margin::amounts::add_on` meets its contract.
use mathlib.Core.Path.{sym, ap, ◌∙◌}
use native.Mathlib.Omega.{arith}
use Rattle.std.proofs.Common.{ℕ, ◌+◌, ◌-◌, ◌*◌, ◌/◌}
use Rattle.numbers.specs.Rounding.{ceiling}
use Rattle.numbers.proofs.Rounding.{ceiling_steps}
use Rattle.margin.proofs.Widths.{addon_parts}
use Rattle.margin.proofs.amounts.add_on.Goals as goal

pub returns : goal.returns
unfolding ceiling
returns c =
    ap (λ (q : ℕ). (c.args.undiversified - c.args.tail) / 100 * (100 - c.args.p) + q) (c.div_ceil.ensures ∙ ceiling_steps _ 100 (omega arith))
    ∙ sym (addon_parts c.args.p c.args.tail c.args.undiversified)
