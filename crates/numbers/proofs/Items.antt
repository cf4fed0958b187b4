-- Laws of findings in a row, of the first failing item, of tests over all items, of sums over items.
-- Assumes nothing.
use Rattle.std.specs.Prelude.{if◌then◌else◌}
use Prim.Native.Nat.{ℕ, zero, suc, ◌+◌, ◌-◌, ◌*◌, ◌≤◌, ◌<◌}
use mathlib.Core.Bool.{Bool, true, false, not, ◌&&◌, ◌||◌}
use mathlib.Core.Logic.{⊎_elim, ◌⊎◌, ◌↔◌, inl, inr}
use mathlib.Core.Path.{◌≡◌, refl, sym, ap, ◌∙◌, subst}
use native.Mathlib.Nat.{not-suc-le-zero, eq-or-lt_of_le, le_of_suc-le-suc, suc-mul, mul-zero, mul-add, add_assoc, add_comm, add-zero}
use native.Mathlib.Numerals.{add-one}
use native.Mathlib.Omega.{arith}
use borrow.Author.Tests.{leb-true, eq-eqb, ne_eqb, eqb-true, eqb-false}
use lib.Dec.{leb, eqb}
use lib.IntN.{ℤ, pos, nat_abs, ◌+ℤ◌, ◌*ℤ◌, +ℤ_assoc, +ℤ_comm, +ℤ_idr, zero-*ℤ, *ℤ_comm}
use Rattle.numbers.specs.Conditions.{within, In}
use Rattle.numbers.specs.Items.{and_then, first_failing, every, some, sum_of, total, total_z}
use Rattle.numbers.specs.Rounding.{with_sign}
use Rattle.numbers.specs.Findings.{Finding, Passed, Refused, judged}
use Rattle.numbers.proofs.Signs.{nat_abs-add, with_sign-zero, with_sign-add, mul_addℤ}

-- ---- a test's two cases

pub by_test {ℓ} : {P : Type ℓ} (b : Bool) → (b ≡ true → P) → (b ≡ false → P) → P
by_test true t f = t refl
by_test false t f = f refl

pub true_not_false : true ≡ false → ⊥
true_not_false e = let z : ◌≡◌ {A = ℕ} 0 1 = ap (λ (b : Bool). if b then 0 else 1) e in omega arith

-- both tests of a conjunction hold
pub both : (a b : Bool) → a && b ≡ true → (a ≡ true) × (b ≡ true)
both true b e = (refl, e)
both false b e = absurd (true_not_false (sym e))

-- a test of a range holds: both bounds do
pub in_range_lem : (low high x : ℕ) → within low high x ≡ true → In low high x
in_range_lem low high x t =
    let h = both (leb low x) (leb x high) t in
    (leb-true low x h.0, leb-true x high h.1)

-- one test of a disjunction holds
pub either : (a b : Bool) → a || b ≡ true → (a ≡ true) ⊎ (b ≡ true)
either true b e = inl refl
either false b e = inr e

-- neither test of a disjunction holds
pub neither : (a b : Bool) → a || b ≡ false → (a ≡ false) × (b ≡ false)
neither true b e = absurd (true_not_false e)
neither false b e = (refl, e)

-- the first test of a conjunction that fails holds: the other fails
pub other_fails : (a b : Bool) → a && b ≡ false → a ≡ true → b ≡ false
other_fails true b f t = f
other_fails false b f t = absurd (true_not_false (sym t))

pub and_false : (b : Bool) → b && false ≡ false
and_false true = refl
and_false false = refl

pub or_true : (b : Bool) → b || true ≡ true
or_true true = refl
or_true false = refl

not_both : (a b : Bool) → not a || b ≡ not (a && not b)
not_both true true = refl
not_both true false = refl
not_both false b = refl

pub or_false : (b : Bool) → b || false ≡ b
or_false true = refl
or_false false = refl

-- ---- findings

-- a refusal is no pass
pub refused_not_passed : {number item : ℕ} → Refused number item ≡ Passed → ⊥
refused_not_passed e = let z : ◌≡◌ {A = ℕ} 0 1 = cc in omega arith

-- both checks in a row passed
pub both_passed : (a b : Finding) → and_then a b ≡ Passed → (a ≡ Passed) × (b ≡ Passed)
both_passed Passed b e = (refl, e)
both_passed (Refused number item) b e = absurd (refused_not_passed e)

-- ---- the finding of one item

-- a good one
pub judged_good : (code i : ℕ) → code ≡ 0 → judged code i ≡ Passed
judged_good code i good = rw (eq-eqb code 0 good)

-- one that is refused
pub judged_bad : (code i : ℕ) → (code ≡ 0 → ⊥) → judged code i ≡ Refused code i
judged_bad code i bad = rw (ne_eqb code 0 bad)

-- ---- the first failing item

module _ (code : ℕ → ℕ) where
  -- no item is left
  pub over : (i : ℕ) → first_failing code 0 i ≡ Passed
  unfolding first_failing
  over i = refl

  -- item i is good: the rest decides
  pub next : (n i : ℕ) → code i ≡ 0 → first_failing code (suc n) i ≡ first_failing code n (suc i)
  unfolding first_failing
  next n i good = rw (eq-eqb (code i) 0 good)

  -- item i fails
  pub here : (n i : ℕ) → (code i ≡ 0 → ⊥) → first_failing code (suc n) i ≡ Refused (code i) i
  unfolding first_failing
  here n i bad = rw (ne_eqb (code i) 0 bad)

  -- all pass: each is good
  pub each : (n i : ℕ) → first_failing code n i ≡ Passed → (j : ℕ) → i ≤ j → j < i + n → code j ≡ 0
  each zero i e j low high = absurd (let h : suc j ≤ j = omega arith in omega arith)
  each (suc n) i e j low high =
      by_test (eqb (code i) 0)
      (λ t. ⊎_elim
      (λ same. subst (λ (y : ℕ). code y ≡ 0) same (eqb-true (code i) 0 t))
      (λ past. each n (suc i) (sym (next n i (eqb-true (code i) 0 t)) ∙ e) j past (omega arith))
      (eq-or-lt_of_le low))
      (λ f. absurd (refused_not_passed (sym (here n i (eqb-false (code i) 0 f)) ∙ e)))

  -- each is good: all pass
  pub all_pass : (n i : ℕ) → ((j : ℕ) → i ≤ j → j < i + n → code j ≡ 0) → first_failing code n i ≡ Passed
  all_pass zero i good = over i
  all_pass (suc n) i good =
      next n i (good i (omega arith) (omega arith)) ∙ all_pass n (suc i) (λ j low high. good j (omega arith) (omega arith))

  -- one is refused: which, and by its own number, which is not 0
  pub which_failed : (n i : ℕ) {number item : ℕ} → first_failing code n i ≡ Refused number item
      → (i ≤ item) × (item < i + n) × (code item ≡ number) × (number ≡ 0 → ⊥)
  which_failed zero i e = absurd (refused_not_passed (sym e ∙ over i))
  which_failed (suc n) i {number} {item} e =
      by_test (eqb (code i) 0)
      (λ t.
      let w = which_failed n (suc i) (sym (next n i (eqb-true (code i) 0 t)) ∙ e) in
      (omega (arith, w.0), omega (arith, w.1), w.2, w.3))
      (λ f.
      let q : Refused (code i) i ≡ Refused number item = sym (here n i (eqb-false (code i) 0 f)) ∙ e in
      let same : i ≡ item = cc in
      let own : code i ≡ number = cc in
      (omega arith, omega arith, ap code (sym same) ∙ own, λ none. eqb-false (code i) 0 f (own ∙ none)))

-- items that have the same codes come to the same finding
pub failing_same : (f g : ℕ → ℕ) (n i : ℕ) → ((j : ℕ) → i ≤ j → j < i + n → f j ≡ g j) → first_failing f n i ≡ first_failing g n i
unfolding first_failing
failing_same f g zero i same = refl
failing_same f g (suc n) i same =
    rw (same i (omega arith) (omega arith), failing_same f g n (suc i) (λ j low high. same j (omega arith) (omega arith)))

-- a loop over the items: what is left at item i decides the whole
pub record Reached (code : ℕ → ℕ) (n i : ℕ) : Type 0 where
  pub bound : i ≤ n
  pub rest : first_failing code (n - i) i ≡ first_failing code n 0

module _ (code : ℕ → ℕ) (n : ℕ) where
  pub reached_start : Reached code n 0
  reached_start = record { bound = omega arith; rest = ap (λ (y : ℕ). first_failing code y 0) (omega arith) }

  step : (i m : ℕ) → Reached code n i → n - i ≡ suc m → first_failing code (suc m) i ≡ first_failing code n 0
  step i m r e = ap (λ (y : ℕ). first_failing code y i) (sym e) ∙ r.rest

  -- item i is good: on to the next
  pub reached_next : (i : ℕ) → Reached code n i → i < n → code i ≡ 0 → Reached code n (i + 1)
  reached_next i r below good =
      let left : n - i ≡ suc (n - (i + 1)) = omega arith in
      record {
        bound = omega arith;
        rest =
            ap (λ (y : ℕ). first_failing code (n - (i + 1)) y) (omega arith)
            ∙ (sym (next code (n - (i + 1)) i good) ∙ step i (n - (i + 1)) r left);
      }

  -- item i fails by its number: that is the whole's finding
  pub reached_bad : (i number : ℕ) → Reached code n i → i < n → number ≡ code i → (number ≡ 0 → ⊥) → Refused number i ≡ first_failing code n 0
  reached_bad i number r below is bad =
      let left : n - i ≡ suc (n - (i + 1)) = omega arith in
      ap (λ (y : ℕ). Refused y i) is ∙ (sym (here code (n - (i + 1)) i (λ e. bad (is ∙ e))) ∙ step i (n - (i + 1)) r left)

  -- item i is found good: on to the next
  pub reached_good : (i : ℕ) → Reached code n i → i < n → Passed ≡ judged (code i) i → Reached code n (i + 1)
  reached_good i r below good =
      by_test (eqb (code i) 0)
      (λ t. reached_next i r below (eqb-true (code i) 0 t))
      (λ f. absurd (refused_not_passed (sym (good ∙ judged_bad (code i) i (eqb-false (code i) 0 f)))))

  -- item i is refused: that is the whole's finding
  pub reached_refused : (i : ℕ) {number item : ℕ} → Reached code n i → i < n → Refused number item ≡ judged (code i) i
      → Refused number item ≡ first_failing code n 0
  reached_refused i r below is =
      by_test (eqb (code i) 0)
      (λ t. absurd (refused_not_passed (is ∙ judged_good (code i) i (eqb-true (code i) 0 t))))
      (λ f.
      let bad = eqb-false (code i) 0 f in
      is ∙ (judged_bad (code i) i bad ∙ reached_bad i (code i) r below refl bad))

  -- no item is left
  pub reached_end : (i : ℕ) → Reached code n i → n ≤ i → Passed ≡ first_failing code n 0
  reached_end i r end =
      let left : n - i ≡ 0 = omega arith in
      sym (over code i) ∙ (ap (λ (y : ℕ). first_failing code y i) (sym left) ∙ r.rest)

-- ---- tests over all items

module _ (test : ℕ → Bool) where
  pub every_none : every test 0 ≡ true
  unfolding every
  every_none = refl

  -- one item more
  pub every_more : (i : ℕ) → every test (i + 1) ≡ every test i && test i
  unfolding every
  every_more i = rw (add-one i) refl

  -- the test holds of all items so far and of the next
  pub every_next : (i : ℕ) → every test i ≡ true → test i ≡ true → every test (i + 1) ≡ true
  every_next i all here = rw (every_more i) (simp (all, here))

  -- it fails of an item
  pub every_bad : (n i : ℕ) → i < n → test i ≡ false → every test n ≡ false
  unfolding every
  every_bad zero i low bad = absurd (not-suc-le-zero low)
  every_bad (suc n) i low bad =
      ⊎_elim
      (λ (same : i ≡ n). let last : test n ≡ false = subst (λ (y : ℕ). test y ≡ false) same bad in simp last (and_false (every test n)))
      (λ (past : i < n). simp (every_bad n i past bad))
      (eq-or-lt_of_le (le_of_suc-le-suc low))

  -- it holds of all: of each
  pub every_each : (n : ℕ) → every test n ≡ true → (j : ℕ) → j < n → test j ≡ true
  every_each n all j low =
      by_test (test j) (λ t. t) (λ f. absurd (true_not_false (sym all ∙ every_bad n j low f)))

  -- it holds of each: of all
  pub every_all : (n : ℕ) → ((j : ℕ) → j < n → test j ≡ true) → every test n ≡ true
  unfolding every
  every_all zero each = refl
  every_all (suc n) each = simp (every_all n (λ j low. each j (omega arith)), each n (omega arith))

  -- it holds of one item where it does not fail of every item
  pub some_every : (n : ℕ) → some test n ≡ not (every (λ j. not (test j)) n)
  unfolding some every
  some_every zero = refl
  some_every (suc n) = rw (some_every n) (not_both (every (λ j. not (test j)) n) (test n))

  -- it holds of one: of which
  pub some_which : (n : ℕ) → some test n ≡ true → (j : ℕ) × (j < n) × (test j ≡ true)
  unfolding some
  some_which zero e = absurd (true_not_false (sym e))
  some_which (suc n) e =
      ⊎_elim
      (λ (before : some test n ≡ true). let w = some_which n before in (w.0, omega (arith, w.1), w.2))
      (λ (last : test n ≡ true). (n, omega arith, last))
      (either (some test n) (test n) e)

-- tests that agree on the items come to the same
pub every_same : (f g : ℕ → Bool) (n : ℕ) → ((j : ℕ) → j < n → f j ≡ g j) → every f n ≡ every g n
unfolding every
every_same f g zero same = refl
every_same f g (suc n) same = simp (every_same f g n (λ j low. same j (omega arith)), same n (omega arith))

-- ---- sums over items, by any operation

-- an operation that a sum may be taken by in any order
pub record Commutes {A : Type 0} (op : A → A → A) (none : A) : Type 0 where
  pub assoc : (a b c : A) → op (op a b) c ≡ op a (op b c)
  pub comm : (a b : A) → op a b ≡ op b a
  pub unit : (a : A) → op a none ≡ a

pub naturals : Commutes ◌+◌ 0
naturals = record { assoc = add_assoc; comm = add_comm; unit = add-zero }

pub integers : Commutes ◌+ℤ◌ (pos 0)
integers = record { assoc = +ℤ_assoc; comm = +ℤ_comm; unit = +ℤ_idr }

module _ {A : Type 0} (op : A → A → A) (none : A) where
  pub sum_none : (f : ℕ → A) → sum_of op none f 0 ≡ none
  unfolding sum_of
  sum_none f = refl

  -- one item more
  pub sum_next : (f : ℕ → A) (i : ℕ) → sum_of op none f (i + 1) ≡ op (sum_of op none f i) (f i)
  unfolding sum_of
  sum_next f i = rw (add-one i)

  -- items that agree have the same sum
  pub sum_same : (f g : ℕ → A) (n : ℕ) → ((j : ℕ) → j < n → f j ≡ g j) → sum_of op none f n ≡ sum_of op none g n
  unfolding sum_of
  sum_same f g zero h = refl
  sum_same f g (suc n) h = rw (sum_same f g n (λ j low. h j (omega arith)), h n (omega arith))

  -- the sum of two items' sums, item by item
  pub sum_both : Commutes op none → (f g : ℕ → A) (n : ℕ)
      → sum_of op none (λ j. op (f j) (g j)) n ≡ op (sum_of op none f n) (sum_of op none g n)
  unfolding sum_of
  sum_both laws f g zero = sym (laws.unit none)
  sum_both laws f g (suc n) = rw (sum_both laws f g n) (exchange (sum_of op none f n) (sum_of op none g n) (f n) (g n))
    where
      exchange : (a b c d : A) → op (op a b) (op c d) ≡ op (op a c) (op b d)
      exchange a b c d =
          laws.assoc a b (op c d)
          ∙ (ap (op a) (sym (laws.assoc b c d) ∙ (ap (λ (x : A). op x d) (laws.comm b c) ∙ laws.assoc c b d))
          ∙ sym (laws.assoc a c (op b d)))

  -- the items from a on are all the unit: they add nothing
  pub sum_gap : Commutes op none → (f : ℕ → A) (a b : ℕ) → a ≤ b → ((j : ℕ) → a ≤ j → j < b → f j ≡ none) → sum_of op none f b ≡ sum_of op none f a
  unfolding sum_of
  sum_gap laws f a zero h rest = ap (sum_of op none f) (let e : 0 ≡ a = omega arith in e)
  sum_gap laws f a (suc b) h rest =
      ⊎_elim
      (λ (same : a ≡ suc b). ap (sum_of op none f) (sym same))
      (λ (less : a < suc b).
      rw (rest b (omega arith) (omega arith)) (laws.unit (sum_of op none f b))
      ∙ sum_gap laws f a b (omega arith) (λ j low high. rest j low (omega arith)))
      (eq-or-lt_of_le h)

  -- all items but u are the unit: item u is the sum
  pub sum_one : Commutes op none → (f : ℕ → A) (u n : ℕ) → u < n → ((j : ℕ) → (j ≡ u → ⊥) → f j ≡ none) → sum_of op none f n ≡ f u
  sum_one laws f u n low rest =
      sum_gap laws f (u + 1) n (omega arith) (λ j past below. rest j (λ e. omega (arith, e)))
      ∙ (sum_next f u
      ∙ (ap (λ (x : A). op x (f u)) (sum_gap laws f 0 u (omega arith) (λ j past below. rest j (λ e. omega (arith, e))) ∙ sum_none f)
      ∙ (laws.comm none (f u) ∙ laws.unit (f u))))

  -- items that are all the unit
  sum_nones : Commutes op none → (n : ℕ) → sum_of op none (λ j. none) n ≡ none
  sum_nones laws n = sum_gap laws (λ j. none) 0 n (omega arith) (λ j past below. refl) ∙ sum_none (λ j. none)

  -- sums over two numbers in either order
  pub sum_swap : Commutes op none → (f : ℕ → ℕ → A) (n m : ℕ)
      → sum_of op none (λ i. sum_of op none (λ j. f i j) m) n ≡ sum_of op none (λ j. sum_of op none (λ i. f i j) n) m
  unfolding sum_of
  sum_swap laws f zero m = sym (sum_nones laws m)
  sum_swap laws f (suc n) m =
      rw (sum_swap laws f n m) (sym (sum_both laws (λ j. sum_of op none (λ i. f i j) n) (λ j. f n j) m))

-- ---- totals of whole numbers

module _ (f : ℕ → ℕ) where
  -- a total over more items is no smaller
  pub total_grows : (i n : ℕ) → i ≤ n → total f i ≤ total f n
  unfolding sum_of
  total_grows i zero h = let e : i ≡ 0 = omega arith in rw e (omega arith)
  total_grows i (suc n) h =
      ⊎_elim
      (λ (same : i ≡ suc n). rw same (omega arith))
      (λ (less : i < suc n). omega (arith, total_grows i n (le_of_suc-le-suc less)))
      (eq-or-lt_of_le h)

  -- an item is at most the total
  pub total_item : (j n : ℕ) → j < n → f j ≤ total f n
  total_item j n low = omega (arith, total_grows (j + 1) n (omega arith), sum_next ◌+◌ 0 f j)

  -- the first a items, and the b items after them
  pub total_split : (a b : ℕ) → total f (a + b) ≡ total f a + total (λ j. f (a + j)) b
  unfolding sum_of
  total_split a zero = omega (arith, ap (total f) (add-zero a))
  total_split a (suc b) = let next : a + suc b ≡ suc (a + b) = omega arith in omega (arith, total_split a b, ap (total f) next)

  -- each item is at most b: so many times b at most
  pub total_bound : (b n : ℕ) → ((j : ℕ) → j < n → f j ≤ b) → total f n ≤ n * b
  unfolding sum_of
  total_bound b zero h = omega arith
  total_bound b (suc n) h = omega (arith, suc-mul n b, total_bound b n (λ j low. h j (omega arith)), h n (omega arith))

  -- a total is 0 where every item is
  pub total-zero : (n : ℕ) → total f n ≡ 0 → (j : ℕ) → j < n → f j ≡ 0
  total-zero n e j low = omega (arith, total_item j n low)

  -- and only there
  pub zero_total : (n : ℕ) → ((j : ℕ) → j < n → f j ≡ 0) → total f n ≡ 0
  zero_total n none = sum_gap ◌+◌ 0 naturals f 0 n (omega arith) (λ j past low. none j low) ∙ sum_none ◌+◌ 0 f

  -- a multiple of each item
  pub total_times : (y n : ℕ) → total (λ j. y * f j) n ≡ y * total f n
  unfolding sum_of
  total_times y zero = sym (mul-zero y)
  total_times y (suc n) = rw (total_times y n) (sym (mul-add y (total f n) (f n)))

  -- all items but u are 0: item u is the total
  pub total_one : (u n : ℕ) → u < n → ((j : ℕ) → (j ≡ u → ⊥) → f j ≡ 0) → total f n ≡ f u
  total_one u n low rest = sum_one ◌+◌ 0 naturals f u n low rest

-- items that are no larger have no larger total
pub total-le : (f g : ℕ → ℕ) (n : ℕ) → ((j : ℕ) → j < n → f j ≤ g j) → total f n ≤ total g n
unfolding sum_of
total-le f g zero h = omega arith
total-le f g (suc n) h = omega (arith, total-le f g n (λ j low. h j (omega arith)), h n (omega arith))

-- the steps of a rising function from 0 total its last value
pub total_steps : (g : ℕ → ℕ) (n : ℕ) → ((j : ℕ) → j < n → g j ≤ g (j + 1)) → g 0 ≡ 0 → total (λ j. g (j + 1) - g j) n ≡ g n
unfolding sum_of
total_steps g zero rises none = sym none
total_steps g (suc n) rises none =
    omega (arith, total_steps g n (λ j low. rises j (omega arith)) none, rises n (omega arith), ap g (add-one n))

-- all items pass exactly where their codes total 0
pub pass_total : (code : ℕ → ℕ) (n : ℕ) → (first_failing code n 0 ≡ Passed) ↔ (total code n ≡ 0)
pass_total code n = (
  λ e. zero_total code n (λ j low. each code n 0 e j (omega arith) (omega arith)),
  λ e. all_pass code n 0 (λ j low high. total-zero code n e j (omega arith)),
)

-- ---- totals of signed numbers

-- the size of a total is at most the total of the sizes
pub total_size : (f : ℕ → ℤ) (n : ℕ) → nat_abs (total_z f n) ≤ total (λ j. nat_abs (f j)) n
unfolding sum_of
total_size f zero = omega arith
total_size f (suc n) = omega (arith, nat_abs-add (total_z f n) (f n), total_size f n)

-- a total of sizes with one sign
pub signed_total : (s : Bool) (f : ℕ → ℕ) (n : ℕ) → total_z (λ j. with_sign s (f j)) n ≡ with_sign s (total f n)
unfolding sum_of
signed_total s f zero = sym (with_sign-zero s)
signed_total s f (suc n) = rw (signed_total s f n) (sym (with_sign-add s (total f n) (f n)))

-- a factor of each item, taken out of the total
pub total_factor : (c : ℤ) (f : ℕ → ℤ) (n : ℕ) → total_z (λ j. c *ℤ f j) n ≡ c *ℤ total_z f n
unfolding sum_of
total_factor c f zero = sym (*ℤ_comm c (pos 0) ∙ zero-*ℤ c)
total_factor c f (suc n) = rw (total_factor c f n) (sym (mul_addℤ c (total_z f n) (f n)))
