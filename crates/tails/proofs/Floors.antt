-- Laws of the ranking of those scenarios whose loss is at least a floor: they stand first in the ranking of all, and where at
-- least k of them are, they hold the list.
-- Assumes nothing.
use Rattle.std.specs.Prelude.{if◌then◌else◌}
use Prim.Native.Nat.{ℕ, zero, suc, ◌+◌, ◌-◌, ◌≤◌, ◌<◌}
use mathlib.Core.List.{List, [], ◌∷◌, ◌++◌}
use mathlib.Core.Path.{◌≡◌, refl, sym, ap, ◌∙◌, subst}
use native.Mathlib.Nat.{add-zero}
use native.Mathlib.Numerals.{add-one}
use native.Mathlib.Omega.{arith}
use borrow.Author.Tests.{le-leb, lt-leb, leb-true, leb-false}
use lib.Dec.{leb}
use lib.ListN.{length, take, get_or, length-append, get_or-append}
use lib.Seq.{take-append-le, get_or-append-add}
use Rattle.numbers.specs.Items.{sum_of, total}
use Rattle.numbers.proofs.Items.{by_test}
use Rattle.tails.specs.Ranking.{ahead, inserted, ranked, tail_list}
use Rattle.tails.specs.InnerContracts.{ranked_from}
use Rattle.tails.proofs.Ranking.{Each, each_none, each_first, each_rest, ahead_parts, parts_ahead, inserted_cases, inserted-length, inserted_each, ranked-length, ranked_below, Falling, ranked_falling}

-- an entry past the first of two lists
pub get_d_past : (s r : List ℕ) (p : ℕ) → length s ≤ p → get_or (s ++ r) p 0 ≡ get_or r (p - length s) 0
get_d_past s r p le = let whole : p ≡ length s + (p - length s) = omega arith in ap (λ (q : ℕ). get_or (s ++ r) q 0) whole ∙ get_or-append-add s r (p - length s) 0

-- 1 for a loss of at least the floor, else 0
abbrev pub reaches : ℕ → ℕ → ℕ
reaches floor x = if leb floor x then 1 else 0

-- ---- above and below the floor

module _ (f : ℕ → ℕ) (floor : ℕ) where
  -- the ranking of those whose loss is below the floor
  unfoldable lower : ℕ → List ℕ
  lower zero = []
  lower (suc n) = if leb floor (f n) then lower n else inserted f n (lower n)

  -- each that is ranked from the floor on has that loss at least
  pub from_each : (n : ℕ) → Each (λ j. floor ≤ f j) (ranked_from f floor n)
  unfolding ranked_from
  from_each zero = each_none (λ j. floor ≤ f j)
  from_each (suc n) =
      by_test (leb floor (f n))
      (λ t. rw t (inserted_each f n (λ j. floor ≤ f j) (ranked_from f floor n) (leb-true floor (f n) t) (from_each n)))
      (λ t. rw t (from_each n))

  -- one below the floor is left out
  pub from_skip : (n : ℕ) → f n < floor → ranked_from f floor (suc n) ≡ ranked_from f floor n
  unfolding ranked_from
  from_skip n less = rw (lt-leb floor (f n) less)

  lower_each : (n : ℕ) → Each (λ j. f j < floor) (lower n)
  unfolding lower
  lower_each zero = each_none (λ j. f j < floor)
  lower_each (suc n) =
      by_test (leb floor (f n))
      (λ t. rw t (lower_each n))
      (λ t. rw t (inserted_each f n (λ j. f j < floor) (lower n) (leb-false floor (f n) t) (lower_each n)))

  -- one of at least the floor is inserted before the others
  insert_high : (i : ℕ) (high low : List ℕ) → floor ≤ f i → Each (λ j. f j < floor) low → inserted f i (high ++ low) ≡ inserted f i high ++ low
  unfolding inserted
  insert_high i [] [] le below = refl
  insert_high i [] (j ∷ low) le below =
      let less : f j < floor = each_first (λ j. f j < floor) j low below in
      rw (parts_ahead f i j (omega arith) (λ back. absurd (omega arith)))
  insert_high i (j ∷ high) low le below =
      by_test (ahead f i j) (λ t. rw t) (λ t. rw t (ap (λ (l : List ℕ). j ∷ l) (insert_high i high low le below)))

  -- one below the floor is inserted among the others
  insert_low : (i : ℕ) (high low : List ℕ) → f i < floor → Each (λ j. floor ≤ f j) high → inserted f i (high ++ low) ≡ high ++ inserted f i low
  insert_low i [] low less above = refl
  insert_low i (j ∷ high) low less above =
      let le : floor ≤ f j = each_first (λ j. floor ≤ f j) j high above in
      inserted_cases (λ l. l ≡ j ∷ (high ++ inserted f i low)) f i j (high ++ low)
      (λ t. absurd (omega (arith, (ahead_parts f i j t).0)))
      (λ t. ap (λ (l : List ℕ). j ∷ l) (insert_low i high low less (each_rest (λ j. floor ≤ f j) j high above)))

  -- those of at least the floor stand first
  from_first : (n : ℕ) → ranked f n ≡ ranked_from f floor n ++ lower n
  unfolding ranked ranked_from lower
  from_first zero = refl
  from_first (suc n) =
      by_test (leb floor (f n))
      (λ t. rw (t, from_first n) (insert_high n (ranked_from f floor n) (lower n) (leb-true floor (f n) t) (lower_each n)))
      (λ t. rw (t, from_first n) (insert_low n (ranked_from f floor n) (lower n) (leb-false floor (f n) t) (from_each n)))

  sizes : (n : ℕ) → length (ranked_from f floor n) + length (lower n) ≡ n
  sizes n = sym (length-append (ranked_from f floor n) (lower n)) ∙ (ap length (sym (from_first n)) ∙ ranked-length f n)

  there : (n p : ℕ) → p < length (ranked_from f floor n) → get_or (ranked f n) p 0 ≡ get_or (ranked_from f floor n) p 0
  there n p low = ap (λ (l : List ℕ). get_or l p 0) (from_first n) ∙ get_or-append (ranked_from f floor n) (lower n) 0 p low

  -- at least k have the floor's loss: they hold the list
  pub from_list : (n k : ℕ) → k ≤ length (ranked_from f floor n) → tail_list f n k ≡ take k (ranked_from f floor n)
  unfolding tail_list
  from_list n k enough = ap (take k) (from_first n) ∙ take-append-le k (ranked_from f floor n) (lower n) enough

  -- how many they are
  pub from_count : (n : ℕ) → length (ranked_from f floor n) ≡ total (λ i. reaches floor (f i)) n
  unfolding ranked_from sum_of
  from_count zero = refl
  from_count (suc n) =
      by_test (leb floor (f n))
      (λ t. rw t (inserted-length f n (ranked_from f floor n) ∙ (ap suc (from_count n) ∙ sym (add-one (total (λ i. reaches floor (f i)) n)))))
      (λ t. rw t (from_count n ∙ sym (add-zero (total (λ i. reaches floor (f i)) n))))

  -- all are of the scenarios so far
  pub from_below : (n : ℕ) → Each (λ j. j < n) (ranked_from f floor n)
  from_below n p low =
      subst (λ (j : ℕ). j < n) (there n p low)
      (ranked_below f n p (omega (arith, low, sizes n)))

  -- and their losses fall
  pub from_falling : (n : ℕ) → Falling f (ranked_from f floor n)
  from_falling n p q le low =
      subst (λ (j : ℕ). f (get_or (ranked_from f floor n) q 0) ≤ f j) (there n p (omega arith))
      (subst (λ (j : ℕ). f j ≤ f (get_or (ranked f n) p 0)) (there n q low) (ranked_falling f n p q le (omega (arith, low, sizes n, ranked-length f n))))

-- a floor of 0 leaves none out
pub from_zero : (f : ℕ → ℕ) (n : ℕ) → ranked_from f 0 n ≡ ranked f n
unfolding ranked ranked_from
from_zero f zero = refl
from_zero f (suc n) = rw (le-leb 0 (f n) (omega arith)) (ap (inserted f n) (from_zero f n))
