-- Laws of returns and of their variances.
-- Assumes nothing.
use Prim.Native.Nat.{ℕ, zero, suc, ◌+◌, ◌-◌, ◌*◌, ◌/◌, ◌≤◌, ◌<◌}
use mathlib.Core.Bool.{true}
use mathlib.Core.Path.{◌≡◌, refl, ap, ◌∙◌}
use native.Mathlib.Nat.{mul_assoc, mul_comm, add-mul, mul-le-mul, div-le_of_le-mul, le-div_iff_mul-le}
use native.Mathlib.Omega.{arith}
use borrow.Author.Tests.{ne_eqb, le-leb, leb-true}
use lib.IntN.{ℤ, pos, nat_abs, ◌-ℤ◌, ◌*ℤ◌}
use Rattle.numbers.specs.Items.{every}
use Rattle.numbers.proofs.Items.{every_each, every_all, every_same}
use Rattle.numbers.proofs.Signs.{nat_abs-sub, nat_abs_mul}
use Rattle.scenarios.specs.InnerContracts.{step_variance}
use Rattle.scenarios.specs.Returns.{in_range}
use Rattle.scenarios.specs.Volatility.{own_variance, next_variance, variance}

-- ---- returns

-- a price's change times a million
pub change_size : (later earlier : ℕ) → later ≤ 2000000 → earlier ≤ 2000000 → nat_abs ((pos later -ℤ pos earlier) *ℤ pos 1000000) ≤ 4000000000000
change_size later earlier l e = rw (nat_abs_mul (pos later -ℤ pos earlier) (pos 1000000)) (omega (arith, nat_abs-sub later earlier))

-- ---- ranges

module _ (f : ℕ → ℤ) (n : ℕ) where
  -- all lie in their range: each does
  pub ranges_each : every (λ i. in_range (f i)) n ≡ true → (j : ℕ) → j < n → nat_abs (f j) ≤ 1000000
  ranges_each all j low = leb-true (nat_abs (f j)) 1000000 (every_each (λ i. in_range (f i)) n all j low)

  -- each does: all do
  pub ranges_all : ((j : ℕ) → j < n → nat_abs (f j) ≤ 1000000) → every (λ i. in_range (f i)) n ≡ true
  ranges_all each = every_all (λ i. in_range (f i)) n (λ j low. le-leb (nat_abs (f j)) 1000000 (each j low))

  -- returns that agree lie in their range alike
  pub ranges_same : (g : ℕ → ℤ) → ((j : ℕ) → j < n → f j ≡ g j) → every (λ i. in_range (f i)) n ≡ every (λ i. in_range (g i)) n
  ranges_same g same = every_same (λ i. in_range (f i)) (λ i. in_range (g i)) n (λ j low. ap in_range (same j low))

-- ---- variances

-- the own variance of a return that a size bounds
pub own_in : (z : ℤ) (size : ℕ) → nat_abs z ≤ size → own_variance z ≤ size * size * 10000
own_in z size small = omega (arith, mul-le-mul {n₁ = nat_abs z} {m₁ = nat_abs z} {n₂ = size} {m₂ = size} small small)

-- the sum under the smoothing rule's floor is at most 1,000 times what bounds both variances
pub smoothed_in : (factor before own bound : ℕ) → factor ≤ 999 → before ≤ bound → own ≤ bound → factor * before + (1000 - factor) * own ≤ 1000 * bound
smoothed_in factor before own bound f b o =
    omega (arith, mul-le-mul {n₁ = factor} {m₁ = before} {n₂ = factor} {m₂ = bound} (omega arith) b, mul-le-mul {n₁ = 1000 - factor} {m₁ = own} {n₂ = 1000 - factor} {m₂ = bound} (omega arith) o, add-mul factor (1000 - factor) bound, ap (λ (a : ℕ). a * bound) (whole factor f))
  where
    whole : (f : ℕ) → f ≤ 999 → f + (1000 - f) ≡ 1000
    whole f le = omega (arith, le)

module _ (factor j before own : ℕ) (z : ℤ) (is : own ≡ own_variance z) where
  -- a later one
  pub step_later : (j ≡ 0 → ⊥) → (factor * before + (1000 - factor) * own) / 1000 ≡ step_variance factor j before z
  unfolding next_variance
  step_later later = simp (ne_eqb j 0 later) (ap (λ (x : ℕ). (factor * before + (1000 - factor) * x) / 1000) is)

-- the next variance is at most what bounds the one before and the return's own
pub next_in : (factor before bound : ℕ) (z : ℤ) → factor ≤ 999 → before ≤ bound → own_variance z ≤ bound → next_variance factor before z ≤ bound
unfolding next_variance
next_in factor before bound z f b small = div-le_of_le-mul 1000 (smoothed_in factor before (own_variance z) bound f b small)

own_part : (factor before s : ℕ) → 10 * (1000 - factor) * s * 1000 ≤ factor * before + (1000 - factor) * (s * 10000)
own_part factor before s = omega (arith, mul_assoc 10 (1000 - factor) s, mul_assoc (1000 - factor) s 10000)

-- and at least what the return alone puts in
pub next_own : (factor before : ℕ) (z : ℤ) → 10 * (1000 - factor) * (nat_abs z * nat_abs z) ≤ next_variance factor before z
unfolding next_variance
next_own factor before z = (le-div_iff_mul-le {k = 1000} (omega arith)).1 (own_part factor before (nat_abs z * nat_abs z))

own_first : (factor s : ℕ) → 10 * (1000 - factor) * s ≤ s * 10000
own_first factor s = omega (arith, mul_comm s 10000, mul-le-mul {n₁ = 10 * (1000 - factor)} {m₁ = s} {n₂ = 10000} {m₂ = s} (omega arith) (omega arith))

module _ (factor : ℕ) (r : ℕ → ℤ) where
  -- the variance of return j from the one before it
  pub variance_next : (j before : ℕ) → (0 < j → before ≡ variance factor r (j - 1)) → step_variance factor j before (r j) ≡ variance factor r j
  unfolding variance
  variance_next zero before is = refl
  variance_next (suc j) before is =
      let less : suc j - 1 ≡ j = omega arith in
      simp (ne_eqb (suc j) 0 (omega arith)) (ap (λ (x : ℕ). next_variance factor x (r (suc j))) (is (omega arith) ∙ ap (variance factor r) less))

  -- it is at most what bounds the own variances of the returns up to it
  pub variance_in_lem : factor ≤ 999 → (bound j : ℕ) → ((i : ℕ) → i ≤ j → own_variance (r i) ≤ bound) → variance factor r j ≤ bound
  unfolding variance
  variance_in_lem f bound zero small = small 0 (omega arith)
  variance_in_lem f bound (suc j) small = next_in factor (variance factor r j) bound (r (suc j)) f (variance_in_lem f bound j (λ i le. small i (omega arith))) (small (suc j) (omega arith))

  -- 10^16, where each of these returns lies in its range
  pub variance_short : factor ≤ 999 → (j : ℕ) → ((i : ℕ) → i ≤ j → nat_abs (r i) ≤ 1000000) → variance factor r j ≤ 10000000000000000
  variance_short f j small = variance_in_lem f 10000000000000000 j (λ i le. own_in (r i) 1000000 (small i le))

  -- and at least what its own return puts in
  pub variance_own : (j : ℕ) → 10 * (1000 - factor) * (nat_abs (r j) * nat_abs (r j)) ≤ variance factor r j
  unfolding variance
  variance_own zero = own_first factor (nat_abs (r 0) * nat_abs (r 0))
  variance_own (suc j) = next_own factor (variance factor r j) (r (suc j))

-- returns that agree up to j have the same variance there
pub variance_same : (factor : ℕ) (r q : ℕ → ℤ) (j : ℕ) → ((i : ℕ) → i ≤ j → r i ≡ q i) → variance factor r j ≡ variance factor q j
unfolding variance
variance_same factor r q zero same = ap own_variance (same 0 (omega arith))
variance_same factor r q (suc j) same = rw (variance_same factor r q j (λ i le. same i (omega arith)), same (suc j) (omega arith)) refl
