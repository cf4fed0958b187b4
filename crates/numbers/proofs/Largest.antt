-- Laws of the largest of items.
-- Assumes nothing.
use Prim.Native.Nat.{ℕ, zero, suc, ◌≤◌, ◌<◌}
use mathlib.Core.Logic.{◌⊎◌, inl, inr, ⊎_elim}
use mathlib.Core.Path.{◌≡◌, refl}
use native.Mathlib.Nat.{not-suc-le-zero, eq-or-lt_of_le, le_of_suc-le-suc}
use native.Mathlib.Omega.{arith}
use borrow.Author.Tests.{leb-true, leb-false}
use lib.Dec.{leb}
use Rattle.numbers.specs.Items.{largest}
use Rattle.numbers.proofs.Items.{by_test}

module _ (f : ℕ → ℕ) where
  -- no item is larger
  pub largest_at : (j n : ℕ) → j < n → f j ≤ largest f n
  unfolding largest
  largest_at j zero low = absurd (not-suc-le-zero low)
  largest_at j (suc n) low =
      ⊎_elim
      (λ (same : j ≡ n). rw same (omega arith))
      (λ (past : j < n). omega (arith, largest_at j n past))
      (eq-or-lt_of_le (le_of_suc-le-suc low))

  -- it is no larger than what no item passes
  pub largest_most : (b n : ℕ) → ((j : ℕ) → j < n → f j ≤ b) → largest f n ≤ b
  unfolding largest
  largest_most b zero h = omega arith
  largest_most b (suc n) h = omega (arith, largest_most b n (λ j low. h j (omega arith)), h n (omega arith))

  -- it is an item's, or 0
  pub largest_reached : (n : ℕ) → (largest f n ≡ 0) ⊎ ((j : ℕ) × (j < n) × (f j ≡ largest f n))
  unfolding largest
  largest_reached zero = inl refl
  largest_reached (suc n) =
      by_test (leb (largest f n) (f n))
      (λ up. inr (n, omega arith, omega (arith, leb-true (largest f n) (f n) up)))
      (λ down.
      let still = leb-false (largest f n) (f n) down in
      ⊎_elim
      (λ none. absurd (omega (arith, still, none)))
      (λ w. inr (w.0, omega (arith, w.1), omega (arith, w.2, still)))
      (largest_reached n))
