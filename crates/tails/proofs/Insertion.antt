-- Laws of one scenario more: its place, going back from the last, and what moves to make room.
-- Assumes nothing.
use Prim.Native.Nat.{ℕ, zero, suc, ◌-◌, ◌≤◌, ◌<◌}
use mathlib.Core.List.{List, [], ◌∷◌}
use mathlib.Core.Path.{◌≡◌, refl, sym, ap, ◌∙◌, subst}
use mathlib.Core.Logic.{⊎_elim}
use native.Mathlib.Nat.{not-suc-le-zero, eq-or-lt_of_le, le_of_suc-le-suc}
use native.Mathlib.Omega.{arith}
use borrow.Author.Tests.{lt-ltb, le-ltb, ltb-true, ltb-false}
use lib.Dec.{ltb}
use lib.ListN.{length, get_or, set}
use Rattle.numbers.proofs.Items.{by_test}
use Rattle.tails.specs.InnerContracts.{slot, put}

-- ---- room for one entry

-- nothing has moved yet
put_start : (at : ℕ) (s : List ℕ) → at < length s → s ≡ put at at (get_or s at 0) s
unfolding put
put_start at [] low = absurd (not-suc-le-zero low)
put_start zero (a ∷ s) low = refl
put_start (suc at) (a ∷ s) low = ap (λ (l : List ℕ). a ∷ l) (put_start at s (omega arith))

-- what is before it has not moved
put_before : (p at y q : ℕ) (s : List ℕ) → q < p → p ≤ at → get_or (put p at y s) q 0 ≡ get_or s q 0
unfolding put
put_before zero at y q s low high = absurd (not-suc-le-zero low)
put_before (suc p) zero y q s low high = refl
put_before (suc p) (suc at) y q [] low high = refl
put_before (suc p) (suc at) y zero (a ∷ s) low high = refl
put_before (suc p) (suc at) y (suc q) (a ∷ s) low high = put_before p at y q s (omega arith) (omega arith)

-- another entry in its place
put-set : (p at x y : ℕ) (s : List ℕ) → p ≤ at → set (put p at y s) p x ≡ put p at x s
unfolding put
put-set zero at x y s low = refl
put-set (suc p) zero x y s low = absurd (not-suc-le-zero low)
put-set (suc p) (suc at) x y [] low = refl
put-set (suc p) (suc at) x y (a ∷ s) low = ap (λ (l : List ℕ). a ∷ l) (put-set p at x y s (omega arith))

-- one more entry moves
put_back : (p at y : ℕ) (s : List ℕ) → p < at → at < length s → set (put (suc p) at y s) (suc p) (get_or s p 0) ≡ put p at (get_or s p 0) s
unfolding put
put_back p zero y s low fits = absurd (not-suc-le-zero low)
put_back p (suc at) y [] low fits = absurd (not-suc-le-zero fits)
put_back zero (suc at) y (a ∷ s) low fits = refl
put_back (suc p) (suc at) y (a ∷ s) low fits = ap (λ (l : List ℕ). a ∷ l) (put_back p at y s (omega arith) (omega arith))

put_size : (p at y : ℕ) (s : List ℕ) → p ≤ at → at < length s → length (put p at y s) ≡ length s
unfolding put
put_size p at y [] low fits = absurd (not-suc-le-zero fits)
put_size zero zero y (a ∷ s) low fits = refl
put_size zero (suc at) y (a ∷ s) low fits = ap suc (put_size zero at a s (omega arith) (omega arith))
put_size (suc p) zero y (a ∷ s) low fits = refl
put_size (suc p) (suc at) y (a ∷ s) low fits = ap suc (put_size p at y s (omega arith) (omega arith))

-- ---- the place of an entry

module _ (s : List ℕ) (x : ℕ) where
  -- the two cases of the search: further back, or here
  slot_cases : (P : ℕ → Type 0) (p : ℕ) → (get_or s p 0 < x → P (slot s p x)) → (x ≤ get_or s p 0 → P (suc p)) → P (slot s (suc p) x)
  unfolding slot
  slot_cases P p on here = by_test (ltb (get_or s p 0) x) (λ t. rw t (on (ltb-true (get_or s p 0) x t))) (λ t. rw t (here (ltb-false (get_or s p 0) x t)))

  slot-zero : slot s 0 x ≡ 0
  unfolding slot
  slot-zero = refl

  pub slot-le : (p : ℕ) → slot s p x ≤ p
  slot-le zero = omega (arith, slot-zero)
  slot-le (suc p) = slot_cases (λ q. q ≤ suc p) p (λ less. omega (arith, slot-le p)) (λ more. omega arith)

  -- the entry before it is not less
  pub slot_before : (p : ℕ) → 0 < slot s p x → x ≤ get_or s (slot s p x - 1) 0
  slot_before zero some = absurd (omega (arith, slot-zero))
  slot_before (suc p) some =
      slot_cases (λ q. 0 < q → x ≤ get_or s (q - 1) 0) p
      (λ less above. slot_before p above)
      (λ more above. let same : p ≡ suc p - 1 = omega arith in subst (λ (q : ℕ). x ≤ get_or s q 0) same more)
      some

  -- those from it on are
  pub slot_after : (p q : ℕ) → slot s p x ≤ q → q < p → get_or s q 0 < x
  slot_after zero q from low = absurd (not-suc-le-zero low)
  slot_after (suc p) q from low =
      slot_cases (λ a. a ≤ q → get_or s q 0 < x) p
      (λ less after. ⊎_elim
      (λ (same : q ≡ p). subst (λ (r : ℕ). get_or s r 0 < x) (sym same) less)
      (λ (before : q < p). slot_after p q after before)
      (eq-or-lt_of_le (le_of_suc-le-suc low)))
      (λ more after. absurd (let h : suc p ≤ p = omega arith in omega arith))
      from

-- ---- the loop

-- going back from `at`, all from entry p on are less than x and have moved
pub record Inserting (losses₀ list₀ : List ℕ) (at x p : ℕ) (losses list : List ℕ) : Type 0 where
  pub bound : p ≤ at
  pub losses_are : losses ≡ put p at (get_or losses₀ p 0) losses₀
  pub list_is : list ≡ put p at (get_or list₀ p 0) list₀
  pub place : slot losses₀ p x ≡ slot losses₀ at x

module _ (losses₀ list₀ : List ℕ) (at x : ℕ) (fits : at < length losses₀) (room : at < length list₀) where
  pub inserting_start : Inserting losses₀ list₀ at x at losses₀ list₀
  inserting_start = record { bound = omega arith; losses_are = put_start at losses₀ fits; list_is = put_start at list₀ room; place = refl }

  module _ {p : ℕ} {losses list : List ℕ} (r : Inserting losses₀ list₀ at x p losses list) where
    -- the entry before has not moved
    before : (s₀ s : List ℕ) → at < length s₀ → s ≡ put p at (get_or s₀ p 0) s₀ → 0 < p → get_or s (p - 1) 0 ≡ get_or s₀ (p - 1) 0
    before s₀ s low is some =
        ap (λ (l : List ℕ). get_or l (p - 1) 0) is ∙ put_before p at (get_or s₀ p 0) (p - 1) s₀ (omega arith) r.bound

    moved : (s₀ s : List ℕ) → at < length s₀ → s ≡ put p at (get_or s₀ p 0) s₀ → 0 < p
        → set s p (get_or s (p - 1) 0) ≡ put (p - 1) at (get_or s₀ (p - 1) 0) s₀
    moved s₀ s low is some =
        let whole : suc (p - 1) ≡ p = omega arith in
        let step = put_back (p - 1) at (get_or s₀ p 0) s₀ (omega (arith, r.bound)) low in
        rw (before s₀ s low is some, is) (subst (λ (q : ℕ). set (put q at (get_or s₀ p 0) s₀) q (get_or s₀ (p - 1) 0) ≡ put (p - 1) at (get_or s₀ (p - 1) 0) s₀) whole step)

    -- the entry before is less: it moves
    pub inserting_next : 0 < p → get_or losses (p - 1) 0 < x
        → Inserting losses₀ list₀ at x (p - 1) (set losses p (get_or losses (p - 1) 0)) (set list p (get_or list (p - 1) 0))
    unfolding slot
    inserting_next some less =
        let whole : suc (p - 1) ≡ p = omega arith in
        let lower : get_or losses₀ (p - 1) 0 < x = subst (λ (z : ℕ). z < x) (before losses₀ losses fits r.losses_are some) less in
        let here : slot losses₀ (suc (p - 1)) x ≡ slot losses₀ (p - 1) x = rw (lt-ltb (get_or losses₀ (p - 1) 0) x lower) in
        record {
          bound = omega (arith, r.bound);
          losses_are = moved losses₀ losses fits r.losses_are some;
          list_is = moved list₀ list room r.list_is some;
          place = sym here ∙ (ap (λ (q : ℕ). slot losses₀ q x) whole ∙ r.place);
        }

    -- the entry before is not less: this is the place
    inserting_stop : 0 < p → x ≤ get_or losses (p - 1) 0 → p ≡ slot losses₀ at x
    unfolding slot
    inserting_stop some more =
        let whole : suc (p - 1) ≡ p = omega arith in
        let upper : x ≤ get_or losses₀ (p - 1) 0 = subst (λ (z : ℕ). x ≤ z) (before losses₀ losses fits r.losses_are some) more in
        let here : slot losses₀ (suc (p - 1)) x ≡ suc (p - 1) = rw (le-ltb (get_or losses₀ (p - 1) 0) x upper) in
        sym whole ∙ (sym here ∙ (ap (λ (q : ℕ). slot losses₀ q x) whole ∙ r.place))

    -- the entries in their place
    inserting_end : (i : ℕ) → p ≡ slot losses₀ at x
        → (set losses p x ≡ put (slot losses₀ at x) at x losses₀) × (set list p i ≡ put (slot losses₀ at x) at i list₀)
    inserting_end i here = (
      rw r.losses_are (put-set p at x (get_or losses₀ p 0) losses₀ r.bound ∙ ap (λ (q : ℕ). put q at x losses₀) here),
      rw r.list_is (put-set p at i (get_or list₀ p 0) list₀ r.bound ∙ ap (λ (q : ℕ). put q at i list₀) here),
    )

    -- the entry before is not less: here they stand
    pub inserting_here : (i : ℕ) → 0 < p → x ≤ get_or losses (p - 1) 0
        → (set losses p x ≡ put (slot losses₀ at x) at x losses₀) × (set list p i ≡ put (slot losses₀ at x) at i list₀)
    inserting_here i some more = inserting_end i (inserting_stop some more)

    -- there is none before: they stand first
    pub inserting_first : (i : ℕ) → p ≤ 0
        → (set losses 0 x ≡ put (slot losses₀ at x) at x losses₀) × (set list 0 i ≡ put (slot losses₀ at x) at i list₀)
    unfolding slot
    inserting_first i none =
        let zeroth : p ≡ 0 = omega arith in
        subst (λ (q : ℕ). (set losses q x ≡ put (slot losses₀ at x) at x losses₀) × (set list q i ≡ put (slot losses₀ at x) at i list₀)) zeroth
        (inserting_end i (zeroth ∙ subst (λ (q : ℕ). slot losses₀ q x ≡ slot losses₀ at x) zeroth r.place))
