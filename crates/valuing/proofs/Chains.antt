-- Laws of the positions that hold a bond: the next one from a position on, and the pass that finds them.
-- Assumes nothing.
use Prim.Native.Nat.{ℕ, suc, ◌+◌, ◌-◌, ◌≤◌, ◌<◌}
use mathlib.Core.List.{List}
use mathlib.Core.Path.{◌≡◌, refl, sym, ap, ◌∙◌}
use native.Mathlib.Omega.{arith}
use borrow.Author.Tests.{eq-eqb, ne_eqb, eqb-true, eqb-false}
use lib.Dec.{eqb}
use lib.ListN.{length, get_or, set, length-set}
use lib.Seq.{get_or-set_same, get_or-set_other}
use Rattle.numbers.specs.Items.{sum_of, first_where}
use Rattle.numbers.proofs.Counts.{of_group}
use Rattle.numbers.proofs.Items.{Commutes, by_test, sum_next, sum_gap}
use Rattle.numbers.proofs.Where.{first_here, first_skip, first_in, first_holds, first_before}
use Rattle.valuing.specs.Positions.{position_count, position_bond}
use Rattle.valuing.specs.InnerContracts.{holds, next_holder}

module _ (positions : List ℕ) (i : ℕ) where
  one_more : (p : ℕ) → p < position_count positions → position_count positions - p ≡ suc (position_count positions - (p + 1))
  one_more p low = omega (arith, low)

  -- past the last position
  holder_end : next_holder positions i (position_count positions) ≡ position_count positions
  unfolding next_holder first_where
  holder_end = let none : position_count positions - position_count positions ≡ 0 = omega arith in rw none refl

  -- position p holds the bond
  holder_here : (p : ℕ) → p < position_count positions → position_bond positions p ≡ i → next_holder positions i p ≡ p
  unfolding next_holder
  holder_here p low is =
      ap (λ (n : ℕ). first_where (holds positions i) n p) (one_more p low)
      ∙ first_here (holds positions i) (position_count positions - (p + 1)) p (eq-eqb (position_bond positions p) i is)

  -- it does not
  holder_skip : (p : ℕ) → p < position_count positions → (position_bond positions p ≡ i → ⊥) → next_holder positions i p ≡ next_holder positions i (p + 1)
  unfolding next_holder
  holder_skip p low other =
      let next : suc p ≡ p + 1 = omega arith in
      ap (λ (n : ℕ). first_where (holds positions i) n p) (one_more p low)
      ∙ (first_skip (holds positions i) (position_count positions - (p + 1)) p (ne_eqb (position_bond positions p) i other)
      ∙ ap (first_where (holds positions i) (position_count positions - (p + 1))) next)

  -- it lies at p or after it, and there are no more positions
  pub holder_in : (p : ℕ) → p ≤ position_count positions → (p ≤ next_holder positions i p) × (next_holder positions i p ≤ position_count positions)
  unfolding next_holder
  holder_in p low =
      let h = first_in (holds positions i) (position_count positions - p) p in
      (h.0, omega (arith, h.1, low))

  -- it holds the bond
  pub holder_holds : (p : ℕ) → p ≤ position_count positions → next_holder positions i p < position_count positions → position_bond positions (next_holder positions i p) ≡ i
  unfolding next_holder
  holder_holds p low some =
      eqb-true _ i (first_holds (holds positions i) (position_count positions - p) p (omega (arith, some, low)))

  -- none lies between: what they are summed by stays
  pub holder_gap : {B : Type 0} (op : B → B → B) (none : B) → Commutes op none → (f : ℕ → B) (p : ℕ) → p ≤ position_count positions
      → sum_of op none (of_group op none (position_bond positions) f i) (next_holder positions i p) ≡ sum_of op none (of_group op none (position_bond positions) f i) p
  unfolding next_holder
  holder_gap op none laws f p low =
      sum_gap op none laws (of_group op none (position_bond positions) f i) p (next_holder positions i p) (holder_in p low).0
      (λ j past before. rw (first_before (holds positions i) (position_count positions - p) p j past before))

  -- position p holds the bond: what they are summed by has one more
  pub holder_next : {B : Type 0} (op : B → B → B) (none : B) (f : ℕ → B) (p : ℕ) → position_bond positions p ≡ i
      → sum_of op none (of_group op none (position_bond positions) f i) (p + 1) ≡ op (sum_of op none (of_group op none (position_bond positions) f i) p) (f p)
  holder_next op none f p is = sum_next op none (of_group op none (position_bond positions) f i) p ∙ rw (eq-eqb (position_bond positions p) i is)

-- ---- the pass that finds them

-- from the last position back to position p
pub record ChainTo (positions : List ℕ) (p : ℕ) (first next first-now next-now : List ℕ) : Type 0 where
  pub size : length first-now ≡ length first
  pub room : length next-now ≡ length next
  pub firsts : (i : ℕ) → i < length first → get_or first-now i 0 ≡ next_holder positions i p
  pub nexts : (q : ℕ) → p ≤ q → q < position_count positions → get_or next-now q 0 ≡ next_holder positions (position_bond positions q) (q + 1)

module _ (positions : List ℕ) (first next : List ℕ) where
  -- none yet
  pub chain_none : ((i : ℕ) → i < length first → get_or first i 0 ≡ position_count positions) → ChainTo positions (position_count positions) first next first next
  chain_none none =
      record {
        size = refl;
        room = refl;
        firsts = λ i low. none i low ∙ sym (holder_end positions i);
        nexts = λ q past low. absurd (let h : 1 ≤ 0 = omega (arith, past, low) in omega (arith, h));
      }

  -- one position more
  module _ (p : ℕ) {after : ℕ} (first-now next-now : List ℕ) (so-after : ChainTo positions after first next first-now next-now) (is-after : after ≡ p + 1)
      (low : p < position_count positions) (fits : position_count positions ≤ length next) {b : ℕ} (is : b ≡ position_bond positions p) (known : b < length first) where
    so : ChainTo positions (p + 1) first next first-now next-now
    so = rw (← is-after) so-after

    pub chain_next : ChainTo positions p first next (set first-now b p) (set next-now p (get_or first-now b 0))
    chain_next =
        record {
          size = length-set first-now b p ∙ so.size;
          room = length-set next-now p (get_or first-now b 0) ∙ so.room;
          firsts = λ i below.
              by_test (eqb i b)
              (λ t.
              let same : i ≡ b = eqb-true i b t in
              rw same (get_or-set_same first-now b p 0 (omega (arith, so.size, known)) ∙ sym (holder_here positions b p low (sym is))))
              (λ f.
              let apart : i ≡ b → ⊥ = eqb-false i b f in
              get_or-set_other first-now b i p 0 apart
              ∙ (so.firsts i below ∙ sym (holder_skip positions i p low (λ e. apart (sym e ∙ sym is)))));
          nexts = λ q past below.
              by_test (eqb q p)
              (λ t.
              let same : q ≡ p = eqb-true q p t in
              rw same
              (get_or-set_same next-now p (get_or first-now b 0) 0 (omega (arith, so.room, low, fits))
              ∙ (so.firsts b known ∙ ap (λ (i : ℕ). next_holder positions i (p + 1)) is)))
              (λ f.
              let apart : q ≡ p → ⊥ = eqb-false q p f in
              get_or-set_other next-now p q (get_or first-now b 0) 0 apart ∙ so.nexts q (omega (arith, past, apart)) below);
        }

  -- all are found
  module _ (p : ℕ) (first-now next-now : List ℕ) (so : ChainTo positions p first next first-now next-now) (end : p ≤ 0) where
    start : p ≡ 0
    start = omega (arith, end)

    pub first_all : (i : ℕ) → i < length first → get_or first-now i 0 ≡ next_holder positions i 0
    first_all i low = so.firsts i low ∙ ap (next_holder positions i) start

    pub next_all : (q : ℕ) → q < position_count positions → get_or next-now q 0 ≡ next_holder positions (position_bond positions q) (q + 1)
    next_all q low = so.nexts q (omega (arith, end)) low
