-- The list and the tail sum: the list is a choice, no choice totals more, and what follows from that.
-- Assumes nothing.
use Prim.Native.Nat.{ℕ, zero, suc, ◌+◌, ◌-◌, ◌*◌, ◌≤◌, ◌<◌}
use mathlib.Core.Bool.{true}
use mathlib.Core.List.{List, [], ◌∷◌}
use mathlib.Core.Logic.{⊎_elim}
use mathlib.Core.Path.{◌≡◌, refl, sym, ap, ◌∙◌, subst}
use native.Mathlib.Nat.{eq-or-lt_of_le, le_of_mul-le-mul_left, le_of_suc-le-suc, le_refl, le_trans, min-eq_left, mul-le-mul_left, mul-le-mul_right, mul_left_comm, not-suc-le-zero, zero-lt-suc}
use native.Mathlib.Omega.{arith}
use borrow.Author.Tests.{ltb-true, ltb-false}
use lib.Dec.{ltb}
use lib.ListN.{length, take, get_or, replicate, length-take}
use lib.Seq.{length-take-le, take_all, take_at, get_or-take}
use Rattle.numbers.specs.Buffers.{table}
use Rattle.numbers.specs.Items.{total}
use Rattle.numbers.proofs.Buffers.{table-length, table-add}
use Rattle.numbers.proofs.Items.{by_test}
use Rattle.tails.specs.Ranking.{ahead, inserted, ranked, tail_list, total_over, tail_sum, Choice}
use Rattle.tails.specs.InnerContracts.{Absent}
use Rattle.tails.proofs.Choices.{others, others_choice, others_split, list_chosen}
use Rattle.tails.proofs.Measures.{weighted_adds, weighted_multiplies, weighted_follows, weighted_ones, Measure, measure_same, measure_monotone, measure_subadditive, measure_times, measure_several}
use Rattle.tails.proofs.Ranking.{Each, Falling, falling_rest, ahead_parts, not_ahead, inserted_cases, inserted_none, ranked-length, ranked_has, ranked_order, ranked_falling, ranked_rising, ranked_same}

-- ---- the list

module _ (f : ℕ → ℕ) (n : ℕ) where
  -- the list is a choice of k
  pub list_choice : (k : ℕ) → k ≤ n → Choice n k (tail_list f n k)
  list_choice k le = subst (λ (m : ℕ). Choice n m (tail_list f n k)) (min-eq_left le) (list_chosen f n k)

  -- it totals the tail sum
  pub list_totals : (k : ℕ) → total_over f (tail_list f n k) ≡ tail_sum f n k
  unfolding tail_sum
  list_totals k = refl

  -- each listed scenario stands ahead of each that is not listed
  pub listed_ahead : (k p j : ℕ) → p < k → p < n → j < n → Absent j (tail_list f n k)
      → ahead f (get_or (tail_list f n k) p 0) j ≡ true
  unfolding tail_list
  listed_ahead k p j within low below absent =
      let h = ranked_has f n j below in
      by_test (ltb h.0 k)
      (λ t.
      let listed : h.0 < k = ltb-true h.0 k t in
      absurd
      (absent h.0 (omega (arith, length-take k (ranked f n), ranked-length f n, h.1))
      (get_or-take k (ranked f n) h.0 0 listed ∙ h.2)))
      (λ t.
      let past : k ≤ h.0 = ltb-false h.0 k t in
      rw (get_or-take k (ranked f n) p 0 within)
      (subst (λ (i : ℕ). ahead f (get_or (ranked f n) p 0) i ≡ true) h.2 (ranked_order f n p h.0 (omega arith) h.1)))

-- losses that agree on the scenarios have the same list
pub list_same : (f g : ℕ → ℕ) (n k : ℕ) → ((i : ℕ) → i < n → f i ≡ g i) → tail_list f n k ≡ tail_list g n k
unfolding tail_list
list_same f g n k same = ap (take k) (ranked_same f g n same)

-- equal losses list the scenarios 0 to k − 1
pub list_rising : (f : ℕ → ℕ) (n k : ℕ) → k ≤ n → ((i j : ℕ) → i < n → j < n → f i ≡ f j) → tail_list f n k ≡ table (λ i. i) k 0
unfolding tail_list
list_rising f n k le equal =
    let rest : k + (n - k) ≡ n = omega arith in
    ap (take k) (ranked_rising f n equal ∙ (ap (λ (m : ℕ). table (λ i. i) m 0) (sym rest) ∙ table-add (λ i. i) k (n - k) 0))
    ∙ take_at (table (λ i. i) k 0) (table (λ i. i) (n - k) (0 + k)) k (table-length (λ i. i) k 0)

-- ---- totals over a list

-- of one value
over_value : (b : ℕ) (s : List ℕ) → total_over (λ i. b) s ≡ length s * b
unfolding total_over
over_value b [] = omega arith
over_value b (i ∷ s) = omega (arith, over_value b s)

module _ (f : ℕ → ℕ) where
  -- of one more of the first ones
  over_next : (k : ℕ) (s : List ℕ) → k < length s → total_over f (take (suc k) s) ≡ total_over f (take k s) + f (get_or s k 0)
  unfolding total_over
  over_next k [] low = absurd (not-suc-le-zero low)
  over_next zero (i ∷ s) low = omega arith
  over_next (suc k) (i ∷ s) low = let less : k < length s = omega arith in omega (arith, over_next k s less)

  -- one more adds no more than the largest
  over_more : (b k : ℕ) (s : List ℕ) → Each (λ i. f i ≤ b) s → total_over f (take (suc k) s) ≤ b + total_over f (take k s)
  over_more b k s le =
      by_test (ltb k (length s))
      (λ t.
      let low : k < length s = ltb-true k (length s) t in
      omega (arith, over_next k s low, le k low))
      (λ t.
      let past : length s ≤ k = ltb-false k (length s) t in
      rw (take_all k s past, take_all (suc k) s (omega arith)) (omega arith))

-- ---- no choice totals more

module _ (f : ℕ → ℕ) (i : ℕ) where
  -- the first k after an insertion total no less than the first k before
  left : (k : ℕ) (s : List ℕ) → Falling f s → total_over f (take k s) ≤ total_over f (take k (inserted f i s))
  unfolding total_over
  left zero s falling = omega arith
  left (suc k) [] falling = omega arith
  left (suc k) (j ∷ s) falling =
      inserted_cases (λ l. total_over f (take (suc k) (j ∷ s)) ≤ total_over f (take (suc k) l)) f i j s
      (λ t. over_more f (f i) k (j ∷ s)
      (λ p low. let first : f (get_or (j ∷ s) p 0) ≤ f j = falling 0 p (omega arith) low in omega (arith, (ahead_parts f i j t).0)))
      (λ t. omega (arith, left k s (falling_rest f j s falling)))

  -- nor less than the new one and one less of those before
  taken : (k : ℕ) (s : List ℕ) → f i + total_over f (take k s) ≤ total_over f (take (suc k) (inserted f i s))
  unfolding total_over
  taken k [] = rw (inserted_none f i) (omega arith)
  taken zero (j ∷ s) =
      inserted_cases (λ l. f i + 0 ≤ total_over f (take 1 l)) f i j s (λ t. omega arith) (λ t. omega (arith, not_ahead f i j t))
  taken (suc k) (j ∷ s) =
      inserted_cases (λ l. f i + total_over f (take (suc k) (j ∷ s)) ≤ total_over f (take (suc (suc k)) l)) f i j s
      (λ t. omega arith)
      (λ t. omega (arith, taken k s))

module _ (f : ℕ → ℕ) where
  -- the tail sum with one scenario more: no less than without it
  newest_left : (n k : ℕ) → tail_sum f n k ≤ tail_sum f (suc n) k
  unfolding tail_sum tail_list ranked
  newest_left n k = left f n k (ranked f n) (ranked_falling f n)

  -- nor less than with it for the last one
  newest_taken : (n k : ℕ) → f n + tail_sum f n k ≤ tail_sum f (suc n) (suc k)
  unfolding tail_sum tail_list ranked
  newest_taken n k = taken f n k (ranked f n)

  -- no choice of at most k totals more than the list
  pub largest_within : (n k j : ℕ) (s : List ℕ) → j ≤ k → Choice n j s → total_over f s ≤ tail_sum f n k
  unfolding total_over
  largest_within zero k j [] le c = omega arith
  largest_within zero k j (i ∷ s) le c = absurd (not-suc-le-zero (c.below 0 (zero-lt-suc (length s))))
  largest_within (suc n) k j s le c =
      ⊎_elim
      (λ same.
      let h : total_over f (others n s) ≤ tail_sum f n k =
      largest_within n k (length (others n s)) (others n s) (rw same (omega (arith, c.count))) (others_choice n s c) in
      omega (arith, ap (total_over f) same, newest_left n k))
      (λ has.
      with_newest k (omega (arith, c.count, has.0))
      (λ m fits. largest_within n m (length (others n s)) (others n s) fits (others_choice n s c)) (has.1 f))
      (others_split n s)
    where
      with_newest : (k : ℕ) → suc (length (others n s)) ≤ k
          → ((m : ℕ) → length (others n s) ≤ m → total_over f (others n s) ≤ tail_sum f n m)
          → total_over f s ≡ f n + total_over f (others n s) → total_over f s ≤ tail_sum f (suc n) k
      with_newest zero fits rest is = absurd (not-suc-le-zero fits)
      with_newest (suc m) fits rest is = omega (arith, newest_taken n m, rest m (omega arith))

  -- no choice of k totals more than the list
  pub tail_largest : (n k : ℕ) (s : List ℕ) → Choice n k s → total_over f s ≤ tail_sum f n k
  tail_largest n k s c = largest_within n k k s (le_refl k) c

-- ---- the tail sum

-- the plain total is a measure: it is the one with equal weights
pub plain : (n k : ℕ) → Measure n k total_over
unfolding tail_sum
plain n k = record {
  adds = λ f g s.
      rw (weighted_ones (λ i. f i + g i) s, weighted_ones f s, weighted_ones g s) (weighted_adds (replicate (length s) 1) f g s);
  multiplies = λ c f s. rw (weighted_ones (λ i. c * f i) s, weighted_ones f s) (weighted_multiplies (replicate (length s) 1) c f s);
  follows = λ f g s le. rw (weighted_ones f s, weighted_ones g s) (weighted_follows (replicate (length s) 1) f g s le);
  largest = λ f j s le c. largest_within f n k j s le c;
}

-- losses that agree have the same tail sum
pub tail_same : (f g : ℕ → ℕ) (n k : ℕ) → ((i : ℕ) → i < n → f i ≡ g i) → tail_sum f n k ≡ tail_sum g n k
unfolding tail_sum
tail_same f g n k same = measure_same (plain n k) f g same

-- losses that are no larger have no larger tail sum
pub tail_monotone : (f g : ℕ → ℕ) (n k : ℕ) → ((i : ℕ) → i < n → f i ≤ g i) → tail_sum f n k ≤ tail_sum g n k
unfolding tail_sum
tail_monotone f g n k le = measure_monotone (plain n k) f g le

-- sums of losses have no larger tail sum than the sum of theirs
pub tail_subadditive : (f g : ℕ → ℕ) (n k : ℕ) → tail_sum (λ i. f i + g i) n k ≤ tail_sum f n k + tail_sum g n k
unfolding tail_sum
tail_subadditive f g n k = measure_subadditive (plain n k) f g

-- multiples of losses have that multiple of the tail sum
pub tail_times : (c : ℕ) (f : ℕ → ℕ) (n k : ℕ) → tail_sum (λ i. c * f i) n k ≡ c * tail_sum f n k
unfolding tail_sum
tail_times c f n k = measure_times (plain n k) c f

-- totals of several losses have no larger tail sum than the total of theirs
pub tail_several : (f : ℕ → ℕ → ℕ) (m n k : ℕ) → tail_sum (λ i. total (λ v. f v i) m) n k ≤ total (λ v. tail_sum (f v) n k) m
unfolding tail_sum
tail_several f m n k = measure_several (plain n k) f m

-- losses of at most b have a tail sum of at most k times b
pub tail_bound : (f : ℕ → ℕ) (b n k : ℕ) → ((i : ℕ) → i < n → f i ≤ b) → tail_sum f n k ≤ k * b
unfolding tail_sum
tail_bound f b n k le =
    let short : length (tail_list (λ i. b) n k) ≤ k = omega (arith, (list_chosen (λ i. b) n k).count) in
    omega (arith, tail_monotone f (λ i. b) n k le, over_value b (tail_list (λ i. b) n k), mul-le-mul_right b short)

-- the average over the list does not rise with its length: one scenario more
pub tail_average : (f : ℕ → ℕ) (n k : ℕ) → k * tail_sum f n (suc k) ≤ suc k * tail_sum f n k
unfolding tail_sum tail_list
tail_average f n k =
    by_test (ltb k n)
    (λ t.
    let low : k < length (ranked f n) = rw (ranked-length f n) (ltb-true k n t) in
    rw (over_next f k (ranked f n) low) (omega (arith, least low)))
    (λ t.
    let past : n ≤ k = ltb-false k n t in
    let whole : length (ranked f n) ≤ k = omega (arith, ranked-length f n) in
    rw (take_all k (ranked f n) whole, take_all (suc k) (ranked f n) (omega arith)) (omega arith))
  where
    -- the first k losses total no less than k times the next
    least : k < length (ranked f n) → k * f (get_or (ranked f n) k 0) ≤ total_over f (take k (ranked f n))
    least low =
        let x = f (get_or (ranked f n) k 0) in
        let size : length (take k (ranked f n)) ≡ k = length-take-le k (ranked f n) (omega arith) in
        let each : Each (λ i. x ≤ f i) (take k (ranked f n)) =
        λ p within.
        let less : p < k = omega arith in
        rw (get_or-take k (ranked f n) p 0 less) (ranked_falling f n p k (omega arith) low) in
        let h : k * x ≡ total_over (λ i. x) (take k (ranked f n)) = sym (over_value x (take k (ranked f n)) ∙ ap (λ (m : ℕ). m * x) size) in
        omega (arith, (plain n k).follows (λ i. x) f (take k (ranked f n)) each)

-- and any two lengths
pub tail_averages : (f : ℕ → ℕ) (n j k : ℕ) → j ≤ k → j * tail_sum f n k ≤ k * tail_sum f n j
tail_averages f n zero k le = omega arith
tail_averages f n (suc i) zero le = absurd (not-suc-le-zero le)
tail_averages f n (suc i) (suc k) le =
    ⊎_elim
    (λ (same : suc i ≡ suc k). rw same (le_refl (suc k * tail_sum f n (suc k))))
    (λ (less : suc i < suc k). one_more_lem (le_of_suc-le-suc less) (tail_averages f n (suc i) k (le_of_suc-le-suc less)))
    (eq-or-lt_of_le le)
  where
    -- k is not 0, so it may be taken out of both sides
    one_more_lem : suc i ≤ k → suc i * tail_sum f n k ≤ k * tail_sum f n (suc i) → suc i * tail_sum f n (suc k) ≤ suc k * tail_sum f n (suc i)
    one_more_lem within before =
        let times : k * (suc i * tail_sum f n (suc k)) ≤ k * (suc k * tail_sum f n (suc i)) =
        rw (mul_left_comm k (suc i) (tail_sum f n (suc k)), mul_left_comm k (suc k) (tail_sum f n (suc i)))
        (le_trans
        (mul-le-mul_left (suc i) (tail_average f n k))
        (rw (mul_left_comm (suc i) (suc k) (tail_sum f n k)) (mul-le-mul_left (suc k) before))) in
        le_of_mul-le-mul_left times (omega arith)
