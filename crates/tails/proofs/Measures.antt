-- Totals over a list of scenarios, plain or weighted, and what follows for those of which no choice has more than the list.
-- Assumes nothing.
use Prim.Native.Nat.{ℕ, zero, suc, ◌+◌, ◌*◌, ◌≤◌, ◌<◌, min}
use mathlib.Core.List.{List, [], ◌∷◌}
use mathlib.Core.Path.{◌≡◌, refl}
use native.Mathlib.Nat.{le_antisymm, le_trans, min-le_left, mul-le-mul_left}
use native.Mathlib.Omega.{arith}
use lib.ListN.{length, get_or, replicate}
use Rattle.numbers.specs.Items.{sum_of, total}
use Rattle.tails.specs.Ranking.{tail_list, total_over, Choice, weighted_over}
use Rattle.tails.proofs.Choices.{list_chosen}
use Rattle.tails.proofs.Ranking.{Each, each_first, each_rest}

-- ---- weighted totals over a list of scenarios

-- of sums
pub weighted_adds : (ws : List ℕ) (f g : ℕ → ℕ) (s : List ℕ) → weighted_over (λ i. f i + g i) ws s ≡ weighted_over f ws s + weighted_over g ws s
unfolding weighted_over
weighted_adds [] f g s = refl
weighted_adds (w ∷ ws) f g [] = refl
weighted_adds (w ∷ ws) f g (i ∷ s) = omega (arith, weighted_adds ws f g s)

-- of multiples
pub weighted_multiplies : (ws : List ℕ) (c : ℕ) (f : ℕ → ℕ) (s : List ℕ) → weighted_over (λ i. c * f i) ws s ≡ c * weighted_over f ws s
unfolding weighted_over
weighted_multiplies [] c f s = omega arith
weighted_multiplies (w ∷ ws) c f [] = omega arith
weighted_multiplies (w ∷ ws) c f (i ∷ s) = omega (arith, weighted_multiplies ws c f s)

-- of losses that are no larger
pub weighted_follows : (ws : List ℕ) (f g : ℕ → ℕ) (s : List ℕ) → Each (λ i. f i ≤ g i) s → weighted_over f ws s ≤ weighted_over g ws s
unfolding weighted_over
weighted_follows [] f g s le = omega arith
weighted_follows (w ∷ ws) f g [] le = omega arith
weighted_follows (w ∷ ws) f g (i ∷ s) le =
    omega (
      arith,
      mul-le-mul_left w (each_first (λ j. f j ≤ g j) i s le),
      weighted_follows ws f g s (each_rest (λ j. f j ≤ g j) i s le),
    )

-- the plain total is the case of equal weights
pub weighted_ones : (f : ℕ → ℕ) (s : List ℕ) → total_over f s ≡ weighted_over f (replicate (length s) 1) s
unfolding total_over weighted_over
weighted_ones f [] = refl
weighted_ones f (i ∷ s) = omega (arith, weighted_ones f s)

-- ---- measures

-- a total by some rule, of which no choice has more than the list
pub record Measure (n k : ℕ) (over : (ℕ → ℕ) → List ℕ → ℕ) : Type 0 where
  -- of a sum of losses it is the sum
  pub adds : (f g : ℕ → ℕ) (s : List ℕ) → over (λ i. f i + g i) s ≡ over f s + over g s
  -- of a multiple the multiple
  pub multiplies : (c : ℕ) (f : ℕ → ℕ) (s : List ℕ) → over (λ i. c * f i) s ≡ c * over f s
  -- of no larger losses no larger
  pub follows : (f g : ℕ → ℕ) (s : List ℕ) → Each (λ i. f i ≤ g i) s → over f s ≤ over g s
  -- and of no choice of at most k larger than of the list
  pub largest : (f : ℕ → ℕ) (j : ℕ) (s : List ℕ) → j ≤ k → Choice n j s → over f s ≤ over f (tail_list f n k)

module _ {n k : ℕ} {over : (ℕ → ℕ) → List ℕ → ℕ} (m : Measure n k over) where
  -- no list by other losses has more
  other_list : (f g : ℕ → ℕ) → over g (tail_list f n k) ≤ over g (tail_list g n k)
  other_list f g = m.largest g (min k n) (tail_list f n k) (min-le_left k n) (list_chosen f n k)

  -- losses that are no larger
  pub measure_monotone : (f g : ℕ → ℕ) → ((i : ℕ) → i < n → f i ≤ g i) → over f (tail_list f n k) ≤ over g (tail_list g n k)
  measure_monotone f g le =
      le_trans
      (m.follows f g (tail_list f n k) (λ p low. le (get_or (tail_list f n k) p 0) ((list_chosen f n k).below p low)))
      (other_list f g)

  -- losses that agree
  pub measure_same : (f g : ℕ → ℕ) → ((i : ℕ) → i < n → f i ≡ g i) → over f (tail_list f n k) ≡ over g (tail_list g n k)
  measure_same f g same =
      le_antisymm
      (measure_monotone f g (λ i low. omega (arith, same i low)))
      (measure_monotone g f (λ i low. omega (arith, same i low)))

  -- sums of losses
  pub measure_subadditive : (f g : ℕ → ℕ)
      → over (λ i. f i + g i) (tail_list (λ i. f i + g i) n k) ≤ over f (tail_list f n k) + over g (tail_list g n k)
  measure_subadditive f g =
      omega (
        arith,
        m.adds f g (tail_list (λ i. f i + g i) n k),
        other_list (λ i. f i + g i) f,
        other_list (λ i. f i + g i) g,
      )

  -- multiples of losses
  pub measure_times : (c : ℕ) (f : ℕ → ℕ) → over (λ i. c * f i) (tail_list (λ i. c * f i) n k) ≡ c * over f (tail_list f n k)
  measure_times c f =
      omega (
        arith,
        m.multiplies c f (tail_list (λ i. c * f i) n k),
        mul-le-mul_left c (other_list (λ i. c * f i) f),
        m.multiplies c f (tail_list f n k),
        other_list f (λ i. c * f i),
      )

  -- totals of several losses
  pub measure_several : (f : ℕ → ℕ → ℕ) (count : ℕ)
      → over (λ i. total (λ v. f v i) count) (tail_list (λ i. total (λ v. f v i) count) n k)
      ≤ total (λ v. over (f v) (tail_list (f v) n k)) count
  unfolding sum_of
  measure_several f zero = omega (arith, m.multiplies 0 (λ i. 0) (tail_list (λ i. 0) n k))
  measure_several f (suc count) =
      omega (arith, measure_subadditive (λ i. total (λ v. f v i) count) (f count), measure_several f count)
