-- Laws of volatilities and of scaled returns.
-- Assumes nothing.
use Prim.Native.Nat.{ℕ, ◌+◌, ◌-◌, ◌*◌, ◌≤◌, ◌<◌}
use mathlib.Core.Bool.{true}
use mathlib.Core.Path.{◌≡◌}
use native.Mathlib.Nat.{mul_assoc, mul_comm, mul-add, mul-le-mul, mul-mul-mul_comm}
use native.Mathlib.Omega.{arith}
use borrow.Author.Tests.{eq-eqb, ne_eqb, eqb-false, le-leb}
use lib.Dec.{eqb}
use lib.IntN.{ℤ, pos, nat_abs, ◌*ℤ◌}
use Rattle.numbers.specs.Root.{root}
use Rattle.numbers.specs.Rounding.{nearest_z}
use Rattle.numbers.proofs.Items.{by_test}
use Rattle.numbers.proofs.Roots.{root_is, root_least}
use Rattle.numbers.proofs.Rounding.{nearest-le}
use Rattle.numbers.proofs.Signs.{nat_abs_mul, nat_abs_nearest}
use Rattle.scenarios.specs.Returns.{in_range}
use Rattle.scenarios.specs.Scaled.{scaled_of}

-- ---- scaled returns

module _ (z : ℤ) (newest own : ℕ) where
  -- the size of what is rounded
  pub weighted_in : nat_abs z ≤ 1000000 → newest ≤ 100000000 → own ≤ 100000000 → nat_abs (z *ℤ pos (newest + own)) ≤ 200000000000000
  weighted_in a b c = rw (nat_abs_mul z (pos (newest + own))) (omega (arith, mul-le-mul {n₁ = nat_abs z} {m₁ = newest + own} {n₂ = 1000000} {m₂ = 200000000} a (omega arith)))

  -- no volatility: the scaled return is 0
  pub scaled_none : own ≡ 0 → pos 0 ≡ scaled_of z newest own
  unfolding scaled_of
  scaled_none none = simp (eq-eqb own 0 none)

  -- else it is rounded
  pub scaled_some : (own ≡ 0 → ⊥) → nearest_z (z *ℤ pos (newest + own)) (2 * own) ≡ scaled_of z newest own
  unfolding scaled_of
  scaled_some some = simp (ne_eqb own 0 some)

-- ---- a low newest volatility

-- |z| · newest and |z| · own are at most 10^6 · own each
calm_weights : (z c newest own : ℕ) → z ≤ 1000000 → newest ≤ 1000000 * c → c * z ≤ own → z * (newest + own) ≤ 1000000 * (2 * own)
calm_weights z c newest own small calm least =
    omega (arith, mul-add z newest own, mul-le-mul {n₁ = z} {m₁ = newest} {n₂ = z} {m₂ = 1000000 * c} (omega arith) calm, mul_assoc z 1000000 c, mul_comm z c, mul_comm z 1000000, mul_assoc 1000000 z c, mul-le-mul {n₁ = z} {m₁ = own} {n₂ = 1000000} {m₂ = own} small (omega arith))

-- a return's own volatility is at least its size times the root of what its square weighs
own_least : (z weight variance : ℕ) → weight * (z * z) ≤ variance → root weight * z ≤ root variance
own_least z weight variance least =
    root_least variance (root weight * z)
    (rw (mul-mul-mul_comm (root weight) z (root weight) z)
    (omega (arith, least, mul-le-mul {n₁ = root weight * root weight} {m₁ = z * z} {n₂ = weight} {m₂ = z * z} (root_is weight).low (omega arith))))

-- at a low newest volatility a return in its range, whose variance holds at least its own part, has a scaled return in its
-- range
pub calm_in : (factor newest variance : ℕ) (z : ℤ) → newest ≤ 1000000 * root (10 * (1000 - factor)) → nat_abs z ≤ 1000000 → 10 * (1000 - factor) * (nat_abs z * nat_abs z) ≤ variance → in_range (scaled_of z newest (root variance)) ≡ true
unfolding scaled_of
calm_in factor newest variance z calm small least =
    by_test (eqb (root variance) 0)
    (λ none. simp none)
    (λ some.
    let own : ℕ = root variance in
    let low : 0 < own = let h = eqb-false own 0 some in omega (arith, h) in
    let bound : nat_abs (nearest_z (z *ℤ pos (newest + own)) (2 * own)) ≤ 1000000 =
    rw (nat_abs_nearest (z *ℤ pos (newest + own)) (2 * own), nat_abs_mul z (pos (newest + own)))
    (nearest-le (nat_abs z * (newest + own)) (2 * own) 1000000 (omega (arith, low))
    (calm_weights (nat_abs z) (root (10 * (1000 - factor))) newest own small calm (own_least (nat_abs z) (10 * (1000 - factor)) variance least))) in
    simp some (le-leb _ _ bound))
