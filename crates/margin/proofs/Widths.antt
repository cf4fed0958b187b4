-- What the code of D cites: the quotient and the rest of U − T by 100, multiplied apart.
-- Assumes nothing.
use Prim.Native.Nat.{ℕ, ◌+◌, ◌-◌, ◌*◌, ◌/◌, ◌%◌}
use mathlib.Core.Path.{◌≡◌, ap, ◌∙◌}
use native.Mathlib.Nat.{mul_comm}
use native.Mathlib.Omega.{arith}
use Rattle.numbers.specs.Rounding.{ceiling}
use Rattle.numbers.proofs.Rounding.{wide_div}
use Rattle.margin.specs.Figures.{add_on}

-- D by the quotient and the rest of U − T by 100
pub addon_parts : (p t u : ℕ) → add_on p t u ≡ (u - t) / 100 * (100 - p) + ((u - t) % 100 * (100 - p) + 99) / 100
unfolding add_on ceiling
addon_parts p t u =
    ap (λ (n : ℕ). (n + 99) / 100) (mul_comm (100 - p) (u - t)) ∙ wide_div (u - t) (100 - p) 99 100 (omega arith)
