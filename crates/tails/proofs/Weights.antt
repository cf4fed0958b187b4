-- Weighted totals over a list, by weights that never rise: no choice has more than the list, and what follows from that.
-- Assumes nothing.
use Prim.Native.Nat.{ℕ, suc, ◌+◌, ◌-◌, ◌*◌, ◌≤◌, ◌<◌, zero-le, min, suc-le-suc}
use mathlib.Core.List.{List, [], ◌∷◌}
use mathlib.Core.Path.{◌≡◌, ap}
use native.Mathlib.Nat.{le_refl, min-le_left, mul-le-mul_left, zero-lt-suc}
use native.Mathlib.Omega.{arith}
use lib.ListN.{length, take, drop, get_or}
use lib.Seq.{take-nil, take-take}
use Rattle.numbers.specs.Items.{total}
use Rattle.tails.specs.Ranking.{ranked, tail_list, tail_sum, total_over, Choice, weighted_over, NeverRising}
use Rattle.tails.proofs.Choices.{choice_take}
use Rattle.tails.proofs.Measures.{weighted_adds, weighted_multiplies, weighted_follows, Measure, measure_same, measure_monotone, measure_subadditive, measure_times, measure_several}
use Rattle.tails.proofs.Ranking.{Each, each_first, each_rest}
use Rattle.tails.proofs.Tails.{largest_within}
-- the plain total is the case of equal weights
pub use Rattle.tails.proofs.Measures.{weighted_ones}

-- losses of at most b have a weighted total of at most the weights' total times b
pub weighted_bound : (f : ℕ → ℕ) (b n : ℕ) (ws s : List ℕ) → ((i : ℕ) → i < n → f i ≤ b) → Each (λ i. i < n) s
    → weighted_over f ws s ≤ total_over (λ w. w) ws * b
unfolding total_over weighted_over
weighted_bound f b n [] s le below = omega arith
weighted_bound f b n (w ∷ ws) [] le below = omega arith
weighted_bound f b n (w ∷ ws) (i ∷ s) le below =
    omega (
      arith,
      mul-le-mul_left w (le i (each_first (λ j. j < n) i s below)),
      weighted_bound f b n ws s le (each_rest (λ j. j < n) i s below),
    )

-- ---- the first ones decide

module _ (f : ℕ → ℕ) where
  -- the first weight goes to the first scenario, where there is one
  weighted_next : (w : ℕ) (ws s : List ℕ) → weighted_over f (w ∷ ws) s ≡ w * total_over f (take 1 s) + weighted_over f ws (drop 1 s)
  unfolding total_over weighted_over
  weighted_next w [] [] = omega arith
  weighted_next w (v ∷ ws) [] = omega arith
  weighted_next w ws (i ∷ s) = omega arith

  -- the first ones are the first and those after it
  over_first : (k : ℕ) (s : List ℕ) → total_over f (take (suc k) s) ≡ total_over f (take 1 s) + total_over f (take k (drop 1 s))
  unfolding total_over
  over_first k [] = rw (take-nil {A = ℕ} k)
  over_first k (i ∷ s) = omega arith

  -- weights that never rise: where the first ones of t never total less than as many of s, the weighted total is no less either.
  -- Said of totals that start from a and b, with a weight w no smaller than the first, it goes by induction (Abel's sum)
  by_first : (w a b : ℕ) (ws s t : List ℕ) → get_or ws 0 0 ≤ w → NeverRising ws
      → ((k : ℕ) → k ≤ length ws → a + total_over f (take k s) ≤ b + total_over f (take k t))
      → w * a + weighted_over f ws s ≤ w * b + weighted_over f ws t
  unfolding total_over weighted_over
  by_first w a b [] s t top falls le =
      let start : a ≤ b = omega (arith, le 0 (le_refl 0)) in
      omega (arith, mul-le-mul_left w start)
  by_first w a b (v ∷ ws) s t top falls le =
      let x = total_over f (take 1 s) in
      let y = total_over f (take 1 t) in
      let start : a ≤ b = omega (arith, le 0 zero-le) in
      let whole : w ≡ v + (w - v) = omega arith in
      omega (
        arith,
        weighted_next v ws s,
        weighted_next v ws t,
        mul-le-mul_left (w - v) start,
        ap (λ (m : ℕ). m * a) whole,
        ap (λ (m : ℕ). m * b) whole,
        by_first v (a + x) (b + y) ws (drop 1 s) (drop 1 t)
            (second ws falls)
            (λ p low. falls (suc p) (suc-le-suc low))
            (λ k low. omega (arith, le (suc k) (suc-le-suc low), over_first k s, over_first k t)),
      )
    where
      second : (ws : List ℕ) → NeverRising (v ∷ ws) → get_or ws 0 0 ≤ v
      second [] falls = zero-le
      second (u ∷ ws) falls = falls 0 (suc-le-suc (zero-lt-suc (length ws)))

-- ---- weighted tails

-- by weights that never rise
module _ (ws : List ℕ) (falls : NeverRising ws) where
  pub weighted : (n : ℕ) → Measure n (length ws) (λ f s. weighted_over f ws s)
  unfolding tail_sum tail_list
  weighted n = record {
    adds = weighted_adds ws;
    multiplies = weighted_multiplies ws;
    follows = weighted_follows ws;
    largest = λ f j s le c.
        let h : (k : ℕ) → k ≤ length ws → 0 + total_over f (take k s) ≤ 0 + total_over f (take k (tail_list f n (length ws))) =
        λ k within.
        rw (take-take k (length ws) (ranked f n) within)
        (omega (arith, largest_within f n k (min k j) (take k s) (min-le_left k j) (choice_take k c))) in
        omega (
          arith,
          by_first f (get_or ws 0 0) 0 0 ws s (tail_list f n (length ws)) (le_refl (get_or ws 0 0)) falls h,
        );
  }

  -- no choice has a larger weighted total than the list
  pub weighted_largest : (f : ℕ → ℕ) (n : ℕ) (s : List ℕ) → Choice n (length ws) s
      → weighted_over f ws s ≤ weighted_over f ws (tail_list f n (length ws))
  weighted_largest f n s c = (weighted n).largest f (length ws) s (le_refl (length ws)) c

  -- losses that agree have the same weighted tail
  pub weighted_same : (f g : ℕ → ℕ) (n : ℕ) → ((i : ℕ) → i < n → f i ≡ g i)
      → weighted_over f ws (tail_list f n (length ws)) ≡ weighted_over g ws (tail_list g n (length ws))
  weighted_same f g n same = measure_same (weighted n) f g same

  -- losses that are no larger have no larger weighted tail
  pub weighted_monotone : (f g : ℕ → ℕ) (n : ℕ) → ((i : ℕ) → i < n → f i ≤ g i)
      → weighted_over f ws (tail_list f n (length ws)) ≤ weighted_over g ws (tail_list g n (length ws))
  weighted_monotone f g n le = measure_monotone (weighted n) f g le

  -- sums of losses have no larger weighted tail than the sum of theirs
  pub weighted_subadditive : (f g : ℕ → ℕ) (n : ℕ)
      → weighted_over (λ i. f i + g i) ws (tail_list (λ i. f i + g i) n (length ws))
      ≤ weighted_over f ws (tail_list f n (length ws)) + weighted_over g ws (tail_list g n (length ws))
  weighted_subadditive f g n = measure_subadditive (weighted n) f g

  -- multiples of losses have that multiple of the weighted tail
  pub weighted_times : (c : ℕ) (f : ℕ → ℕ) (n : ℕ)
      → weighted_over (λ i. c * f i) ws (tail_list (λ i. c * f i) n (length ws)) ≡ c * weighted_over f ws (tail_list f n (length ws))
  weighted_times c f n = measure_times (weighted n) c f

  -- totals of several losses have no larger weighted tail than the total of theirs
  pub weighted_several : (f : ℕ → ℕ → ℕ) (m n : ℕ)
      → weighted_over (λ i. total (λ v. f v i) m) ws (tail_list (λ i. total (λ v. f v i) m) n (length ws))
      ≤ total (λ v. weighted_over (f v) ws (tail_list (f v) n (length ws))) m
  weighted_several f m n = measure_several (weighted n) f m
