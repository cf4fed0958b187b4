-- Laws of the first and of the last item that a test holds of.
-- Assumes nothing.
use Prim.Native.Nat.{ℕ, zero, suc, ◌+◌, ◌-◌, ◌≤◌, ◌<◌}
use mathlib.Core.Path.{◌≡◌, refl, sym, ap, ◌∙◌, subst}
use mathlib.Core.Bool.{Bool, true, false}
use mathlib.Core.Logic.{⊎_elim}
use native.Mathlib.Omega.{arith}
use native.Mathlib.Nat.{not-suc-le-zero, eq-or-lt_of_le, le_of_suc-le-suc}
use lib.Dec.{ltb}
use borrow.Author.Tests.{ltb-true, ltb-false}
use native.Mathlib.Numerals.{add-one}
use Rattle.numbers.specs.Items.{first_where, last_where}
use Rattle.numbers.proofs.Items.{by_test, true_not_false}

module _ (test : ℕ → Bool) where
  -- ---- the first, of the n items from i on

  -- the test holds of item i: that is the first
  pub first_here : (n i : ℕ) → test i ≡ true → first_where test (suc n) i ≡ i
  unfolding first_where
  first_here n i good = rw good

  -- it fails of it: the first is sought after it
  pub first_skip : (n i : ℕ) → test i ≡ false → first_where test (suc n) i ≡ first_where test n (suc i)
  unfolding first_where
  first_skip n i bad = rw bad

  first_none : (i : ℕ) → first_where test 0 i ≡ i
  unfolding first_where
  first_none i = refl

  -- it is at or past the start, and at most one past the items
  pub first_in : (n i : ℕ) → (i ≤ first_where test n i) × (first_where test n i ≤ i + n)
  first_in zero i = (omega (arith, first_none i), omega (arith, first_none i))
  first_in (suc n) i =
      by_test (test i)
      (λ t. (omega (arith, first_here n i t), omega (arith, first_here n i t)))
      (λ f. (omega (arith, first_skip n i f, (first_in n (suc i)).0), omega (arith, first_skip n i f, (first_in n (suc i)).1)))

  -- it is an item: the test holds of it
  pub first_holds : (n i : ℕ) → first_where test n i < i + n → test (first_where test n i) ≡ true
  first_holds zero i h = absurd (not-suc-le-zero {n = i} (omega (arith, first_none i)))
  first_holds (suc n) i h =
      by_test (test i)
      (λ t. subst (λ (q : ℕ). test q ≡ true) (sym (first_here n i t)) t)
      (λ f. subst (λ (q : ℕ). test q ≡ true) (sym (first_skip n i f)) (first_holds n (suc i) (omega (arith, first_skip n i f))))

  -- the test fails of every item before it
  pub first_before : (n i v : ℕ) → i ≤ v → v < first_where test n i → test v ≡ false
  first_before zero i v low h = absurd (not-suc-le-zero {n = v} (omega (arith, first_none i)))
  first_before (suc n) i v low h =
      by_test (test i)
      (λ t. absurd (not-suc-le-zero {n = v} (omega (arith, first_here n i t))))
      (λ f. ⊎_elim
      (λ (same : i ≡ v). subst (λ (q : ℕ). test q ≡ false) same f)
      (λ past. first_before n (suc i) v past (omega (arith, first_skip n i f)))
      (eq-or-lt_of_le low))

  -- the first is an item, or one past the items
  pub where_bound : (n : ℕ) → first_where test n 0 ≤ n
  where_bound n = omega (arith, (first_in n 0).1)

  -- it is an item: the test holds of it
  pub where_holds : (n : ℕ) → first_where test n 0 < n → test (first_where test n 0) ≡ true
  where_holds n h = first_holds n 0 (omega arith)

  -- the test fails of every item before it
  pub where_before : (n v : ℕ) → v < first_where test n 0 → test v ≡ false
  where_before n v h = first_before n 0 v (omega arith) h

  -- the test holds of an item: the first is no later
  pub where_here : (n v : ℕ) → v < n → test v ≡ true → first_where test n 0 ≤ v
  where_here n v low good =
      by_test (ltb v (first_where test n 0))
      (λ t. absurd (true_not_false (sym good ∙ where_before n v (ltb-true v (first_where test n 0) t))))
      (λ f. ltb-false v (first_where test n 0) f)

  -- at item v, no later than the first: the test fails of it, so that the first is past it
  pub where_past : (n v : ℕ) → v ≤ first_where test n 0 → v < n → test v ≡ false → v + 1 ≤ first_where test n 0
  where_past n v h low bad =
      ⊎_elim
      (λ (same : v ≡ first_where test n 0).
      let holds : test (first_where test n 0) ≡ true = where_holds n (omega arith) in
      absurd (true_not_false (sym holds ∙ (ap test (sym same) ∙ bad))))
      (λ (less : v < first_where test n 0). omega arith)
      (eq-or-lt_of_le h)

  -- it holds of it: that is the first
  pub where_found : (n v : ℕ) → v ≤ first_where test n 0 → v < n → test v ≡ true → v ≡ first_where test n 0
  where_found n v h low good = omega (arith, where_here n v low good)

  -- no item is left: there is none
  pub where_stop : (n v : ℕ) → v ≤ first_where test n 0 → n ≤ v → v ≡ first_where test n 0
  where_stop n v h end = omega (arith, where_bound n)

  -- ---- the last

  -- of no items: 0
  pub last_none : last_where test 0 ≡ 0
  unfolding last_where
  last_none = refl

  -- the test holds of the next item: that is the last
  pub last_here : (n : ℕ) → test n ≡ true → last_where test (n + 1) ≡ n
  unfolding last_where
  last_here n good = rw (add-one n) (rw good)

  -- it fails of the next item: the last stays
  pub last_skip : (n : ℕ) → test n ≡ false → last_where test (n + 1) ≡ last_where test n
  unfolding last_where
  last_skip n bad = rw (add-one n) (rw bad)

  last_small : (n : ℕ) → last_where test n ≤ n - 1
  last_small zero = omega (arith, last_none)
  last_small (suc n) =
      rw (← add-one n)
      (by_test (test n)
      (λ t. omega (arith, last_here n t))
      (λ f. omega (arith, last_skip n f, last_small n)))

  -- where there are items, the last is one of them
  pub last_bound : (n : ℕ) → 1 ≤ n → last_where test n < n
  last_bound n some = omega (arith, last_small n)

  -- the test holds of an item: it holds of the last, which is an item and no earlier
  pub last_holds : (n v : ℕ) → v < n → test v ≡ true → (test (last_where test n) ≡ true) × (last_where test n < n) × (v ≤ last_where test n)
  last_holds zero v low good = absurd (not-suc-le-zero low)
  last_holds (suc n) v low good =
      rw (← add-one n)
      (by_test (test n)
      (λ t. rw (last_here n t) (t, omega arith, omega arith))
      (λ f.
      let earlier : v < n =
      ⊎_elim
      (λ (same : v ≡ n). absurd (true_not_false (sym good ∙ (ap test same ∙ f))))
      (λ (less : v < n). less)
      (eq-or-lt_of_le (le_of_suc-le-suc low)) in
      let w = last_holds n v earlier good in
      rw (last_skip n f) (w.0, omega (arith, w.1), w.2)))
