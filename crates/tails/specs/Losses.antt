-- P&Ls of the scenarios, and their losses.
use Rattle.std.specs.Prelude.{ℕ, eqb, ℤ, nat_abs, ◌*ℤ◌, if◌then◌else◌}
use Rattle.numbers.specs.Items.{total_z}
use Rattle.numbers.specs.Rounding.{negative}

-- "In a scenario P&L = sum of exposure × return.": over n vertices of exposures x and returns r, by vertex and scenario
unfoldable pub pnl : ℕ → (ℕ → ℤ) → (ℕ → ℕ → ℤ) → ℕ → ℤ
pnl n x r s = total_z (λ v. x v *ℤ r v s) n

-- "Loss: single, −P&L or 0 if that is negative; double, the size of P&L." The mode is 0 for single, 1 for double.
unfoldable pub loss : ℕ → ℤ → ℕ
loss mode z = if eqb mode 0 then (if negative z then nat_abs z else 0) else nat_abs z
