-- Laws of items in two parts, in groups, and of how often an item is among others: grouped, reordered and divided items have the same sums.
-- Assumes nothing.
use Rattle.std.specs.Prelude.{if◌then◌else◌}
use Prim.Native.Nat.{ℕ, zero, suc, ◌+◌, ◌-◌, ◌≤◌, ◌<◌}
use mathlib.Core.Path.{◌≡◌, refl, sym, ap, ◌∙◌}
use mathlib.Core.Bool.{Bool, true}
use mathlib.Core.Logic.{⊎_elim}
use lib.Dec.{eqb, ltb}
use native.Mathlib.Omega.{arith}
use native.Mathlib.Nat.{add-zero, add-suc, add_right_cancel, eq-or-lt_of_le, le_of_suc-le-suc}
use borrow.Author.Tests.{lt-ltb, le-ltb, eq-eqb, ne_eqb}
use Rattle.numbers.specs.Items.{sum_of, total, how_often}
use Rattle.numbers.proofs.Items.{Commutes, naturals, sum_same, sum_one, sum_swap, by_test}

-- a test that tells equal from different
pub record Equality {A : Type 0} (same : A → A → Bool) : Type 0 where
  pub is : (a b : A) → same a b ≡ true → a ≡ b
  pub itself : (a : A) → same a a ≡ true

-- ---- items in two parts

-- m items, then others
unfoldable pub after : {A : Type 0} → (ℕ → A) → ℕ → (ℕ → A) → ℕ → A
after g m h i = if ltb i m then g i else h (i - m)

-- the items but item i
unfoldable pub without : {A : Type 0} → (ℕ → A) → ℕ → ℕ → A
without f i j = if ltb j i then f j else f (suc j)

module _ {B : Type 0} (op : B → B → B) (none : B) (laws : Commutes op none) where
  -- the sum over n + m items is that over the first n and that over those from n on
  pub sum_joined : (f : ℕ → B) (n m : ℕ) → sum_of op none f (n + m) ≡ op (sum_of op none f n) (sum_of op none (λ i. f (n + i)) m)
  unfolding sum_of
  sum_joined f n zero = ap (sum_of op none f) (add-zero n) ∙ sym (laws.unit (sum_of op none f n))
  sum_joined f n (suc m) =
      ap (sum_of op none f) (add-suc n m)
      ∙ (ap (λ (x : B). op x (f (n + m))) (sum_joined f n m)
      ∙ laws.assoc (sum_of op none f n) (sum_of op none (λ i. f (n + i)) m) (f (n + m)))

  -- the sum over m items, then others
  pub sum_after : {A : Type 0} (w : A → B) (g h : ℕ → A) (m q : ℕ)
      → sum_of op none (λ i. w (after g m h i)) (m + q) ≡ op (sum_of op none (λ i. w (g i)) m) (sum_of op none (λ i. w (h i)) q)
  unfolding after
  sum_after w g h m q =
      sum_joined (λ i. w (after g m h i)) m q
      ∙ (ap (λ (x : B). op x (sum_of op none (λ i. w (after g m h (m + i))) q))
      (sum_same op none (λ i. w (after g m h i)) (λ i. w (g i)) m (λ j low. rw (lt-ltb j m low)))
      ∙ ap (op (sum_of op none (λ i. w (g i)) m))
      (sum_same op none (λ i. w (after g m h (m + i))) (λ i. w (h i)) q
      (λ j low. let back : m + j - m ≡ j = omega arith in rw (le-ltb (m + j) m (omega arith), back))))

  -- the last two of three change places
  pub swap_last : (a b c : B) → op (op a b) c ≡ op (op a c) b
  swap_last a b c = laws.assoc a b c ∙ (ap (op a) (laws.comm b c) ∙ sym (laws.assoc a c b))

  -- the last item taken out
  pub last_out : {A : Type 0} (w : A → B) (f : ℕ → A) (n i : ℕ) → i ≡ n
      → sum_of op none (λ j. w (f j)) (suc n) ≡ op (sum_of op none (λ j. w (without f i j)) n) (w (f i))
  unfolding sum_of without
  last_out w f n i last = rw (last, sum_same op none (λ j. w (without f n j)) (λ j. w (f j)) n (λ j low. rw (lt-ltb j n low)))

  -- item i of n + 1 taken out
  pub sum_without : {A : Type 0} (w : A → B) (f : ℕ → A) (n i : ℕ) → i ≤ n
      → sum_of op none (λ j. w (f j)) (suc n) ≡ op (sum_of op none (λ j. w (without f i j)) n) (w (f i))
  unfolding sum_of without
  sum_without w f zero i low = last_out w f zero i (omega arith)
  sum_without w f (suc n) i low =
      ⊎_elim
      (λ (last : i ≡ suc n). last_out w f (suc n) i last)
      (λ (less : i < suc n).
      ap (λ (x : B). op x (w (f (suc n)))) (sum_without w f n i (le_of_suc-le-suc less))
      ∙ (swap_last (sum_of op none (λ j. w (without f i j)) n) (w (f i)) (w (f (suc n)))
      ∙ rw (le-ltb n i (le_of_suc-le-suc less))))
      (eq-or-lt_of_le low)

-- ---- items in groups

module _ {B : Type 0} (op : B → B → B) (none : B) (g : ℕ → ℕ) (f : ℕ → B) where
  -- item j of group i, and the unit in the place of another group's
  abbrev pub of_group : ℕ → ℕ → B
  of_group i j = if eqb (g j) i then f j else none

  -- the sum over all items is that over the groups, of the sums over the items of each
  pub sum_grouped : Commutes op none → (n m : ℕ) → ((j : ℕ) → j < n → g j < m) → sum_of op none f n ≡ sum_of op none (λ i. sum_of op none (of_group i) n) m
  sum_grouped laws n m known =
      sym
      (sum_swap op none laws of_group m n
      ∙ sum_same op none (λ j. sum_of op none (λ i. of_group i j) m) f n
      (λ j low. sum_one op none laws (λ i. of_group i j) (g j) m (known j low) (λ i other. rw (ne_eqb (g j) i (λ e. other (sym e))))
      ∙ rw (eq-eqb (g j) (g j) refl)))

-- so many ones
pub ones : (n : ℕ) → total (λ i. 1) n ≡ n
unfolding sum_of
ones zero = refl
ones (suc n) = omega (arith, ones n)

-- ---- how often an item is among others

module _ {A : Type 0} (same : A → A → Bool) where
  -- among n + m items: among the first n and among those from n on
  pub often_joined : (a : A) (f : ℕ → A) (n m : ℕ) → how_often same a f (n + m) ≡ how_often same a f n + how_often same a (λ i. f (n + i)) m
  unfolding how_often
  often_joined a f n m = sum_joined ◌+◌ 0 naturals (λ i. if same a (f i) then 1 else 0) n m

  -- among items that agree
  pub often_same : (a : A) (f g : ℕ → A) (n : ℕ) → ((j : ℕ) → j < n → f j ≡ g j) → how_often same a f n ≡ how_often same a g n
  unfolding how_often
  often_same a f g n agree =
      sum_same ◌+◌ 0 (λ i. if same a (f i) then 1 else 0) (λ i. if same a (g i) then 1 else 0) n
      (λ j low. ap (λ (b : A). if same a b then 1 else 0) (agree j low))

  -- among m items, then others
  pub often_after : (a : A) (g h : ℕ → A) (m q : ℕ) → how_often same a (after g m h) (m + q) ≡ how_often same a g m + how_often same a h q
  unfolding how_often
  often_after a g h m q = sum_after ◌+◌ 0 naturals (λ (b : A). if same a b then 1 else 0) g h m q

  -- item i of n + 1 taken out
  pub often_without : (a : A) (f : ℕ → A) (n i : ℕ) → i ≤ n
      → how_often same a f (suc n) ≡ how_often same a (without f i) n + (if same a (f i) then 1 else 0)
  unfolding how_often
  often_without a f n i low = sum_without ◌+◌ 0 naturals (λ (b : A). if same a b then 1 else 0) f n i low

  -- among one item more
  pub often_next : (a : A) (f : ℕ → A) (n : ℕ) → how_often same a f (suc n) ≡ how_often same a f n + (if same a (f n) then 1 else 0)
  unfolding how_often sum_of
  often_next a f n = refl

  -- among no items
  pub often_none : (a : A) (f : ℕ → A) → how_often same a f 0 ≡ 0
  unfolding how_often sum_of
  often_none a f = refl

  -- an item that is among others is one of them
  pub stands : (a : A) (f : ℕ → A) (n : ℕ) → 1 ≤ how_often same a f n → (j : ℕ) × (j < n) × (same a (f j) ≡ true)
  stands a f zero some = absurd (let h : 1 ≤ 0 = omega (arith, often_none a f) in omega arith)
  stands a f (suc n) some =
      by_test (same a (f n))
      (λ t. (n, omega arith, t))
      (λ t.
      let more : how_often same a f (suc n) ≡ how_often same a f n + 0 = often_next a f n ∙ rw t in
      let w = stands a f n (omega arith) in
      (w.0, omega (arith, w.1), w.2))

  module _ (equality : Equality same) where
    -- the last item is among the items
    pub last_stands : (f : ℕ → A) (n : ℕ) → 1 ≤ how_often same (f n) f (suc n)
    last_stands f n =
        let more : how_often same (f n) f (suc n) ≡ how_often same (f n) f n + 1 = often_next (f n) f n ∙ rw (equality.itself (f n)) in
        omega arith

    module _ {B : Type 0} (op : B → B → B) (none : B) (laws : Commutes op none) (w : A → B) where
      -- items among which each is as often have the same sum
      pub reordered_sum : (f g : ℕ → A) (n m : ℕ) → ((a : A) → how_often same a f n ≡ how_often same a g m)
          → sum_of op none (λ i. w (f i)) n ≡ sum_of op none (λ i. w (g i)) m
      unfolding sum_of
      reordered_sum f g zero zero e = refl
      reordered_sum f g zero (suc m) e =
          absurd (let h : 1 ≤ 0 = omega (arith, often_none (g m) f, e (g m), last_stands g m) in omega arith)
      reordered_sum f g (suc n) zero e =
          absurd (let h : 1 ≤ 0 = omega (arith, often_none (f n) g, e (f n), last_stands f n) in omega arith)
      reordered_sum f g (suc n) (suc m) e =
          let there = stands (f n) g (suc m) (omega (arith, e (f n), last_stands f n)) in
          let j = there.0 in
          let low : j ≤ m = omega (arith, there.1) in
          let found : f n ≡ g j = equality.is (f n) (g j) there.2 in
          let rest : (a : A) → how_often same a f n ≡ how_often same a (without g j) m =
          λ a. add_right_cancel (if same a (g j) then 1 else 0)
          (ap (λ (b : A). how_often same a f n + (if same a b then 1 else 0)) (sym found)
          ∙ (sym (often_next a f n) ∙ (e a ∙ often_without a g m j low))) in
          ap (λ (x : B). op x (w (f n))) (reordered_sum f (without g j) n m rest)
          ∙ (ap (λ (b : A). op (sum_of op none (λ i. w (without g j i)) m) (w b)) found
          ∙ sym (sum_without op none laws w g m j low))

      -- items that are divided into two parts: the sum of the parts' sums
      pub divided_sum : (f g h : ℕ → A) (n m q : ℕ) → ((a : A) → how_often same a f n ≡ how_often same a g m + how_often same a h q)
          → sum_of op none (λ i. w (f i)) n ≡ op (sum_of op none (λ i. w (g i)) m) (sum_of op none (λ i. w (h i)) q)
      divided_sum f g h n m q e =
          reordered_sum f (after g m h) n (m + q) (λ a. e a ∙ sym (often_after a g h m q)) ∙ sum_after op none laws w g h m q

    -- and as many as the parts have
    pub divided_count : (f g h : ℕ → A) (n m q : ℕ) → ((a : A) → how_often same a f n ≡ how_often same a g m + how_often same a h q) → n ≡ m + q
    divided_count f g h n m q e =
        omega (arith, ones n, ones m, ones q, divided_sum ◌+◌ 0 naturals (λ (a : A). 1) f g h n m q e)
